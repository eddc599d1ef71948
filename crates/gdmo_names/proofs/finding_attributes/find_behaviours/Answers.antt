-- One more reference, and all of them.
use Rattle.std.proofs.Common.{[], ◌∷◌, arith}
use Rattle.gdmo_names.specs.DocumentTemplates.{in_reference}
use Rattle.gdmo_names.specs.MemberViews.{behaviour_reference}
use Rattle.gdmo_names.specs.Mentions.{mention}
use Rattle.gdmo_names.specs.Mentions.Role.{OfBehaviour}
use Rattle.gdmo_names.specs.declared.roles.Role.TheVariants as roles
use Rattle.gdmo_names.proofs.FindingLaws.{finds_as, finds_end, finds_none, finds_one, finds_step}
use Rattle.gdmo_names.proofs.ShapeLaws.{behaviour_fits, in_row, named_row}
use Rattle.gdmo_names.proofs.finding_attributes.find_behaviours.Goals as goal

pub loop-reference-init : goal.loop-reference-init
loop-reference-init c = finds_none c.args.finding.now c.args.own.now.items

pub loop-reference-preserved : goal.loop-reference-preserved
loop-reference-preserved c =
    finds_step (λ x. in_reference (behaviour_reference x)) (λ x. mention OfBehaviour (behaviour_reference x) ∷ [])
    c.args.references.now c.loop-reference.reference-index c.reference-item.result c.loop-reference-test.true c.reference-item.is
    c.loop-reference.invariant
    (finds_one roles.OfBehaviour c.in_ok-target.target (behaviour_reference c.reference-item.result)
    (behaviour_fits c.reference-item.result) c.in_ok-target.ensures c.in_ok-push.ensures.items)

pub returns : goal.returns
returns c = (finds_as (in_row behaviour_reference c.args.references.now) (named_row OfBehaviour behaviour_reference c.args.references.now)
    (finds_end (λ x. in_reference (behaviour_reference x)) (λ x. mention OfBehaviour (behaviour_reference x) ∷ []) c.args.references.now
    c.loop-reference.reference-index (omega (arith, c.loop-reference-test.false)) c.loop-reference.invariant))
