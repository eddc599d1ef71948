-- What was found of the template, and a template without numbers.
use Rattle.std.proofs.lemmas.Option.{slice_get_past}
use Rattle.gdmo_names.specs.Roles.{role_term}
use Rattle.gdmo_types.specs.RoleTargets.{IsFirst, MeansNumber}
use Rattle.gdmo_types.proofs.RoleLaws.{own_missing, told_of}
use Rattle.gdmo_types.proofs.StepLaws.{got_at}
use Rattle.gdmo_types.proofs.role_targets.target_in_role.Goals as goal

pub returns-in_err-all : goal.returns-in_err-all
returns-in_err-all c = λ parts x are tell at.
    absurd (own_missing parts c.args.templates.now c.args.targets.now c.args.number x tell at
    (slice_get_past c.args.targets.now c.args.number c.in_err-all.ensures.lookup.3))

pub returns : goal.returns
returns c = λ parts x are tell at.
    told_of (λ document terms. IsFirst (MeansNumber parts c.args.templates.now document) (role_term c.args.role) terms
    c.first_number.result) parts c.args.templates.now c.args.targets.now c.args.number x c.in_ok-found.found.now
    c.in_ok-all.all.now c.as_slice.result.now c.as_slice-2.result.now are tell at
    (got_at c.args.templates.now c.args.number c.in_ok-found.found.now c.in_ok-found.ensures.lookup.3.0
    c.in_ok-found.ensures.lookup.1)
    (got_at c.args.targets.now c.args.number c.in_ok-all.all.now c.in_ok-all.ensures.lookup.3.0
    c.in_ok-all.ensures.lookup.1)
    c.as_slice.ensures.value c.as_slice-2.ensures.value (c.first_number.ensures parts)
