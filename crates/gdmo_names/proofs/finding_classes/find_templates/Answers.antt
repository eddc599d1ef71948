-- The templates of classes, and then those of members.
use Rattle.gdmo_names.proofs.PlacedLaws.{placed_found}
use Rattle.gdmo_names.proofs.finding_classes.find_templates.Goals as goal

pub returns : goal.returns
returns c = placed_found c.args.parts.now c.new.ensures.items c.as_slice.ensures.value c.as_slice-2.ensures.value
    c.in_ok-find_classes.ensures c.in_ok-find_members.ensures
