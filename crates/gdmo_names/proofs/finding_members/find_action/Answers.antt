-- The template and its parts.
use Rattle.gdmo_names.proofs.FindingLaws.{finds_both, template_found}
use Rattle.gdmo_names.proofs.finding_members.find_action.Goals as goal

pub returns : goal.returns
returns c = template_found c.new-own.ensures.items c.in_ok-number.ensures
    (finds_both c.in_ok-find_behaviour_clause.ensures
    c.in_ok-find_parameter_clause.ensures)
    c.end.ensures
