-- The template and its parts.
use Rattle.gdmo_names.proofs.FindingLaws.{template_found}
use Rattle.gdmo_names.proofs.finding_members.find_group.Goals as goal

pub returns : goal.returns
returns c = template_found c.new-own.ensures.items c.in_ok-number.ensures
    c.in_ok-find_elements.ensures
    c.end.ensures
