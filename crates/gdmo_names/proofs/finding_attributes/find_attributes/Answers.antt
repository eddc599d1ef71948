-- One more reference, and all of them.
use Rattle.std.proofs.Common.{[], ◌∷◌, arith, subst, sym}
use Rattle.gdmo_names.specs.DocumentTemplates.{in_reference}
use Rattle.gdmo_names.specs.MemberViews.{attribute_reference}
use Rattle.gdmo_names.specs.Mentions.{mention}
use Rattle.gdmo_names.specs.Roles.{role_term}
use Rattle.gdmo_names.specs.TargetTables.{Fits}
use Rattle.gdmo_names.proofs.FindingLaws.{finds_as, finds_end, finds_none, finds_one, finds_step}
use Rattle.gdmo_names.proofs.ShapeLaws.{attribute_fits, in_row, named_row}
use Rattle.gdmo_names.proofs.finding_attributes.find_attributes.Goals as goal

pub loop-reference-init : goal.loop-reference-init
loop-reference-init c = λ is_kind. finds_none c.args.finding.now c.args.own.now.items

pub loop-reference-preserved : goal.loop-reference-preserved
loop-reference-preserved c = λ is_kind.
    finds_step (λ x. in_reference (attribute_reference x))
    (λ x. mention (role_term c.args.role) (attribute_reference x) ∷ []) c.args.references.now
    c.loop-reference.reference-index c.reference-item.result c.loop-reference-test.true c.reference-item.is
    (c.loop-reference.invariant is_kind)
    (finds_one c.args.role c.in_ok-target.target (attribute_reference c.reference-item.result)
    (subst (λ kind. Fits kind (attribute_reference c.reference-item.result)) (sym is_kind)
    (attribute_fits c.reference-item.result)) c.in_ok-target.ensures c.in_ok-push.ensures.items)

pub returns : goal.returns
returns c = λ is_kind. finds_as (in_row attribute_reference c.args.references.now)
    (named_row (role_term c.args.role) attribute_reference c.args.references.now)
    (finds_end (λ x. in_reference (attribute_reference x))
    (λ x. mention (role_term c.args.role) (attribute_reference x) ∷ []) c.args.references.now
    c.loop-reference.reference-index (omega (arith, c.loop-reference-test.false))
    (c.loop-reference.invariant is_kind))
