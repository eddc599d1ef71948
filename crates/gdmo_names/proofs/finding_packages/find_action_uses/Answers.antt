-- One more of them, and all.
use Rattle.std.proofs.Common.{[], ◌∷◌, arith}
use Rattle.gdmo_classes.specs.declared.member_use.ActionUse.{ActionUse}
use Rattle.gdmo_names.specs.ClassViews.{action_reference, action_terms}
use Rattle.gdmo_names.specs.DocumentTemplates.{in_rows}
use Rattle.gdmo_names.specs.MemberViews.{parameter_reference, reference_terms}
use Rattle.gdmo_names.specs.Mentions.{row_mentions}
use Rattle.gdmo_names.specs.Mentions.Role.{PackageAction, OfParameter}
use Rattle.gdmo_names.proofs.FindingLaws.{finds_as, finds_end, finds_none, finds_step}
use Rattle.gdmo_names.proofs.ShapeLaws.{in_rows_row, named_rows}
use Rattle.gdmo_names.proofs.finding_packages.find_action_uses.Goals as goal

pub loop-x-init : goal.loop-x-init
loop-x-init c = finds_none c.args.finding.now c.args.own.now.items

pub loop-x-preserved : goal.loop-x-preserved
loop-x-preserved c =
    finds_step (λ (y : ActionUse). in_rows (action_terms (y ∷ []))) (λ (y : ActionUse). row_mentions PackageAction OfParameter (action_terms (y ∷ [])))
    c.args.uses.now c.loop-x.x-index c.x-item.result c.loop-x-test.true c.x-item.is
    c.loop-x.invariant
    c.in_ok-find_action_use.ensures

pub returns : goal.returns
returns c = finds_as (in_rows_row (λ (y : ActionUse). action_reference y.action)
    (λ (y : ActionUse). reference_terms parameter_reference y.parameters.items) c.args.uses.now)
    (named_rows PackageAction OfParameter (λ (y : ActionUse). action_reference y.action)
    (λ (y : ActionUse). reference_terms parameter_reference y.parameters.items) c.args.uses.now)
    (finds_end (λ (y : ActionUse). in_rows (action_terms (y ∷ []))) (λ (y : ActionUse). row_mentions PackageAction OfParameter (action_terms (y ∷ [])))
    c.args.uses.now c.loop-x.x-index (omega (arith, c.loop-x-test.false)) c.loop-x.invariant)
