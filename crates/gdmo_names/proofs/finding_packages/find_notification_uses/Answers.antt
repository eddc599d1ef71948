-- One more of them, and all.
use Rattle.std.proofs.Common.{[], ◌∷◌, arith}
use Rattle.gdmo_classes.specs.declared.member_use.NotificationUse.{NotificationUse}
use Rattle.gdmo_names.specs.ClassViews.{notification_reference, notification_terms}
use Rattle.gdmo_names.specs.DocumentTemplates.{in_rows}
use Rattle.gdmo_names.specs.MemberViews.{parameter_reference, reference_terms}
use Rattle.gdmo_names.specs.Mentions.{row_mentions}
use Rattle.gdmo_names.specs.Mentions.Role.{PackageNotification, OfParameter}
use Rattle.gdmo_names.proofs.FindingLaws.{finds_as, finds_end, finds_none, finds_step}
use Rattle.gdmo_names.proofs.ShapeLaws.{in_rows_row, named_rows}
use Rattle.gdmo_names.proofs.finding_packages.find_notification_uses.Goals as goal

pub loop-x-init : goal.loop-x-init
loop-x-init c = finds_none c.args.finding.now c.args.own.now.items

pub loop-x-preserved : goal.loop-x-preserved
loop-x-preserved c =
    finds_step (λ (y : NotificationUse). in_rows (notification_terms (y ∷ []))) (λ (y : NotificationUse). row_mentions PackageNotification OfParameter (notification_terms (y ∷ [])))
    c.args.uses.now c.loop-x.x-index c.x-item.result c.loop-x-test.true c.x-item.is
    c.loop-x.invariant
    c.in_ok-find_notification_use.ensures

pub returns : goal.returns
returns c = finds_as (in_rows_row (λ (y : NotificationUse). notification_reference y.notification)
    (λ (y : NotificationUse). reference_terms parameter_reference y.parameters.items) c.args.uses.now)
    (named_rows PackageNotification OfParameter (λ (y : NotificationUse). notification_reference y.notification)
    (λ (y : NotificationUse). reference_terms parameter_reference y.parameters.items) c.args.uses.now)
    (finds_end (λ (y : NotificationUse). in_rows (notification_terms (y ∷ []))) (λ (y : NotificationUse). row_mentions PackageNotification OfParameter (notification_terms (y ∷ [])))
    c.args.uses.now c.loop-x.x-index (omega (arith, c.loop-x-test.false)) c.loop-x.invariant)
