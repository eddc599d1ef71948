-- The template and its parts.
use Rattle.gdmo_names.proofs.FindingLaws.{finds_both, registered, template_as, template_found}
use Rattle.gdmo_names.proofs.finding_packages.find_package.Goals as goal

pub returns : goal.returns
returns c = template_as (registered c.as_ref-identifier.result c.args.template.now.registration
    c.as_ref-identifier.ensures.value) (template_found c.new-own.ensures.items c.in_ok-number.ensures
    (finds_both c.in_ok-find_behaviour_clause.ensures
    (finds_both c.in_ok-find_uses_clause.ensures
    (finds_both c.in_ok-find_group_clause.ensures
    (finds_both c.in_ok-find_action_clause.ensures
    c.in_ok-find_notification_clause.ensures))))
    c.end.ensures)
