-- The template and its parts.
use Rattle.std.proofs.Common.{refl}
use Rattle.gdmo_names.proofs.FindingLaws.{finds_both, template_found}
use Rattle.gdmo_names.proofs.finding_classes.find_binding.Goals as goal

pub returns : goal.returns
returns c = template_found c.new-own.ensures.items c.in_ok-number.ensures
    (finds_both (c.in_ok-find_bound.ensures refl)
    (finds_both (c.in_ok-find_bound-2.ensures refl)
    (finds_both (c.in_ok-find_attribute_role.ensures refl)
    (finds_both c.in_ok-find_behaviour_clause.ensures
    (finds_both c.in_ok-find_creation.ensures
    c.in_ok-find_deletion.ensures)))))
    c.end.ensures
