-- One more of the actions, and all of them.
use Rattle.std.proofs.Common.{◌≡◌, ◌<◌, ◌≤◌, Some, arith, length}
use Rattle.std.specs.Prelude.{slice_get}
use Rattle.std.proofs.Math.Path.{subst}
use Rattle.class_faults.proofs.PlaceFaultLaws.{got_at}
use Rattle.linked_types.specs.PartTypes.{TellsAction}
use Rattle.linked_types.proofs.NamingLaws.{named_all, named_none, named_step, action_stays}
use Rattle.linked_types.proofs.member_types.action_types.Goals as goal

pub loop-action-init : goal.loop-action-init
loop-action-init c = λ ms known table. named_none (TellsAction ms c.args.linked.now) c.args.linked.now.actions.items
    c.new-types.result.items c.args.table.now c.args.bad.now.first c.new-types.ensures.items table

pub loop-action-preserved : goal.loop-action-preserved
loop-action-preserved c = λ ms known table.
    let linked = c.args.linked.now in
    let so_far = c.loop-action.invariant ms known table in
    let i = c.loop-action.action-index in
    let slice = c.deref-action-items.result.now in
    let within : i < length slice = omega (arith, c.loop-action-test.true) in
    let told = c.in_ok-types_of.ensures.told ms linked known so_far.names.table in
    named_step (TellsAction ms linked) linked.actions.items i c.loop-action.types.items c.push.new.self.items
    c.action-item.result c.in_ok-types_of.field-0 (action_stays ms linked)
    (subst (λ xs. slice_get xs i ≡ Some c.action-item.result) c.deref-action-items.ensures.value
    (got_at slice i c.action-item.result within c.action-item.is)) c.in_ok-push.ensures.items
    (record { of_information = told.of_information; of_reply = told.of_reply })
    (c.in_ok-types_of.ensures.names ms linked known so_far.names.table) so_far

pub returns-clause-told : goal.returns-clause-told
returns-clause-told c = λ ms known table.
    named_all (TellsAction ms c.args.linked.now) c.args.linked.now.actions.items c.loop-action.action-index
    c.loop-action.types.items
    (subst (λ xs. length xs ≤ c.loop-action.action-index) c.deref-action-items.ensures.value c.loop-action-test.false)
    (c.loop-action.invariant ms known table)

pub returns-clause-names : goal.returns-clause-names
returns-clause-names c = λ ms known table. (c.loop-action.invariant ms known table).names
