-- One record more, and all of them.
use Rattle.std.proofs.Common.{◌≡◌, ◌<◌, ◌≤◌, Some, arith, length}
use Rattle.std.specs.Prelude.{slice_get}
use Rattle.std.proofs.Math.Path.{subst}
use Rattle.linked_parts.specs.declared.linked.LinkedAction.{LinkedAction}
use Rattle.class_faults.proofs.PlaceFaultLaws.{got_at}
use Rattle.schema_records.specs.MeantParts.{MeanTypes}
use Rattle.schema_records.specs.MemberRecords.{IsAction}
use Rattle.schema_records.specs.RegisteredParts.{HasIdentifier}
use Rattle.schema_records.proofs.EachLaws.{all_at, each_added, each_none, each_whole}
use Rattle.schema_records.proofs.member_records.action_records.Goals as goal

pub loop-place-init : goal.loop-place-init
loop-place-init c = λ ms known registered have.
    each_none (IsAction ms c.args.parts.now.linked.now) c.new-items.result.items c.new-items.ensures.items

pub loop-place-preserved : goal.loop-place-preserved
loop-place-preserved c = λ ms known registered have.
    let linked = c.args.parts.now.linked.now in
    let i = c.loop-place.place in
    let slice = c.deref-part-items.result.now in
    let part = c.part-item.result in
    let within : i < length slice = omega (arith, c.loop-place-test.true) in
    let at = subst (λ xs. slice_get xs i ≡ Some part) c.deref-part-items.ensures.value
    (got_at slice i part within c.part-item.is) in
    each_added (IsAction ms linked) linked.actions.items i part c.loop-place.items.items c.push_action.new.items.items at
    (c.loop-place.invariant ms known registered have)
    (c.in_ok-push_action.ensures ms known at
    (all_at (λ (x : LinkedAction). HasIdentifier x.head) linked.actions.items i part registered.actions at)
    (all_at (λ (x : LinkedAction). MeanTypes ms linked x.information x.reply) linked.actions.items i part have.of_actions at))

pub returns : goal.returns
returns c = λ ms known registered have. each_whole (IsAction ms c.args.parts.now.linked.now)
    c.args.parts.now.linked.now.actions.items c.loop-place.place c.loop-place.items.items
    (subst (λ xs. length xs ≤ c.loop-place.place) c.deref-part-items.ensures.value c.loop-place-test.false)
    (c.loop-place.invariant ms known registered have)
