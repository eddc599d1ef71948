-- The class has these rules.
use Rattle.gdmo_names.specs.FoundViews.{found_views}
use Rattle.gdmo_rules.proofs.step_names.note_class.Goals as goal

pub returns : goal.returns
returns c = λ parts x is graph apart at are each. c.note_row.ensures parts x is
    (c.in_ok-facts.ensures parts (found_views c.args.linkage.now.templates.now) x graph apart at) are each
