-- One more of the notifications, and all of them.
use Rattle.std.proofs.Common.{◌≡◌, ◌<◌, ◌≤◌, Some, arith, length}
use Rattle.std.specs.Prelude.{slice_get}
use Rattle.std.proofs.Math.Path.{subst}
use Rattle.class_faults.proofs.PlaceFaultLaws.{got_at}
use Rattle.linked_types.specs.PartTypes.{TellsNotification}
use Rattle.linked_types.proofs.NamingLaws.{named_all, named_none, named_step, notification_stays}
use Rattle.linked_types.proofs.member_types.notification_types.Goals as goal

pub loop-notification-init : goal.loop-notification-init
loop-notification-init c = λ ms known table. named_none (TellsNotification ms c.args.linked.now)
    c.args.linked.now.notifications.items
    c.new-types.result.items c.args.table.now c.args.bad.now.first c.new-types.ensures.items table

pub loop-notification-preserved : goal.loop-notification-preserved
loop-notification-preserved c = λ ms known table.
    let linked = c.args.linked.now in
    let so_far = c.loop-notification.invariant ms known table in
    let i = c.loop-notification.notification-index in
    let slice = c.deref-notification-items.result.now in
    let within : i < length slice = omega (arith, c.loop-notification-test.true) in
    let told = c.in_ok-types_of.ensures.told ms linked known so_far.names.table in
    named_step (TellsNotification ms linked) linked.notifications.items i c.loop-notification.types.items
    c.push.new.self.items
    c.notification-item.result c.in_ok-types_of.field-0 (notification_stays ms linked)
    (subst (λ xs. slice_get xs i ≡ Some c.notification-item.result) c.deref-notification-items.ensures.value
    (got_at slice i c.notification-item.result within c.notification-item.is)) c.in_ok-push.ensures.items
    (record { of_information = told.of_information; of_reply = told.of_reply })
    (c.in_ok-types_of.ensures.names ms linked known so_far.names.table) so_far

pub returns-clause-told : goal.returns-clause-told
returns-clause-told c = λ ms known table.
    named_all (TellsNotification ms c.args.linked.now) c.args.linked.now.notifications.items
    c.loop-notification.notification-index c.loop-notification.types.items
    (subst (λ xs. length xs ≤ c.loop-notification.notification-index) c.deref-notification-items.ensures.value
    c.loop-notification-test.false)
    (c.loop-notification.invariant ms known table)

pub returns-clause-names : goal.returns-clause-names
returns-clause-names c = λ ms known table. (c.loop-notification.invariant ms known table).names
