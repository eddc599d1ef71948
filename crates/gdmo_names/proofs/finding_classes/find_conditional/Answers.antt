-- One more reference, and all of them.
use Rattle.std.proofs.Common.{[], ◌∷◌, arith}
use Rattle.gdmo_names.specs.DocumentTemplates.{in_reference}
use Rattle.gdmo_names.specs.ClassViews.{conditional_reference}
use Rattle.gdmo_names.specs.Mentions.{mention}
use Rattle.gdmo_names.specs.Mentions.Role.{ConditionalPackage}
use Rattle.gdmo_names.specs.declared.roles.Role.TheVariants as roles
use Rattle.gdmo_names.proofs.FindingLaws.{finds_as, finds_end, finds_none, finds_one, finds_step}
use Rattle.gdmo_names.proofs.ShapeLaws.{package_fits, in_row, named_row}
use Rattle.gdmo_names.proofs.finding_classes.find_conditional.Goals as goal

pub loop-reference-init : goal.loop-reference-init
loop-reference-init c = finds_none c.args.finding.now c.args.own.now.items

pub loop-reference-preserved : goal.loop-reference-preserved
loop-reference-preserved c =
    finds_step (λ x. in_reference (conditional_reference x)) (λ x. mention ConditionalPackage (conditional_reference x) ∷ [])
    c.args.references.now c.loop-reference.reference-index c.reference-item.result c.loop-reference-test.true c.reference-item.is
    c.loop-reference.invariant
    (finds_one roles.ConditionalPackage c.in_ok-target.target (conditional_reference c.reference-item.result)
    (package_fits c.reference-item.result.package) c.in_ok-target.ensures c.in_ok-push.ensures.items)

pub returns : goal.returns
returns c = (finds_as (in_row conditional_reference c.args.references.now) (named_row ConditionalPackage conditional_reference c.args.references.now)
    (finds_end (λ x. in_reference (conditional_reference x)) (λ x. mention ConditionalPackage (conditional_reference x) ∷ []) c.args.references.now
    c.loop-reference.reference-index (omega (arith, c.loop-reference-test.false)) c.loop-reference.invariant))
