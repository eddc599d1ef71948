-- What was found of the template, and a template without numbers.
use Rattle.std.proofs.lemmas.Option.{slice_get_past}
use Rattle.gdmo_names.specs.Roles.{role_term}
use Rattle.gdmo_types.specs.RoleTargets.{AreInRole, MeansNumber}
use Rattle.gdmo_types.proofs.RoleLaws.{own_missing, tells_leads, told_of}
use Rattle.gdmo_types.proofs.StepLaws.{got_at, if_ok_by}
use Rattle.gdmo_types.proofs.role_targets.targets_in_role.Goals as goal

pub returns-in_default-get-clause-in_order : goal.returns-in_default-get-clause-in_order
returns-in_default-get-clause-in_order c = λ parts x are tell at.
    absurd (own_missing parts c.args.templates.now c.args.targets.now c.args.number x tell at
    (slice_get_past c.args.targets.now c.args.number c.in_default-get.ensures.lookup.3))

pub returns-in_default-get-clause-leads : goal.returns-in_default-get-clause-leads
returns-in_default-get-clause-leads c = λ parts x are tell at.
    absurd (own_missing parts c.args.templates.now c.args.targets.now c.args.number x tell at
    (slice_get_past c.args.targets.now c.args.number c.in_default-get.ensures.lookup.3))

pub returns-clause-in_order : goal.returns-clause-in_order
returns-clause-in_order c = if_ok_by c.numbers_in_role.result
    (λ own has parts x are tell at. told_of
    (λ document terms. AreInRole (MeansNumber parts c.args.templates.now document) (role_term c.args.role) terms
    own.items) parts c.args.templates.now c.args.targets.now c.args.number x c.in-Some.found.now
    c.in-Some-get.all.now c.as_slice.result.now c.as_slice-2.result.now are tell at
    (got_at c.args.templates.now c.args.number c.in-Some.found.now c.in-Some.ensures.lookup.3.0
    c.in-Some.ensures.lookup.1)
    (got_at c.args.targets.now c.args.number c.in-Some-get.all.now c.in-Some-get.ensures.lookup.3.0
    c.in-Some-get.ensures.lookup.1)
    c.as_slice.ensures.value c.as_slice-2.ensures.value (has parts)) c.numbers_in_role.ensures

pub returns-clause-leads : goal.returns-clause-leads
returns-clause-leads c = if_ok_by c.numbers_in_role.result
    (λ own has parts x are tell at. tells_leads parts c.args.templates.now x (role_term c.args.role) own.items (told_of
    (λ document terms. AreInRole (MeansNumber parts c.args.templates.now document) (role_term c.args.role) terms
    own.items) parts c.args.templates.now c.args.targets.now c.args.number x c.in-Some.found.now
    c.in-Some-get.all.now c.as_slice.result.now c.as_slice-2.result.now are tell at
    (got_at c.args.templates.now c.args.number c.in-Some.found.now c.in-Some.ensures.lookup.3.0
    c.in-Some.ensures.lookup.1)
    (got_at c.args.targets.now c.args.number c.in-Some-get.all.now c.in-Some-get.ensures.lookup.3.0
    c.in-Some-get.ensures.lookup.1)
    c.as_slice.ensures.value c.as_slice-2.ensures.value (has parts))) c.numbers_in_role.ensures
