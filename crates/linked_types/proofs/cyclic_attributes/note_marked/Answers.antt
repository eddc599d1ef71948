-- An attribute more, and all of them.
use Rattle.std.proofs.Common.{◌<◌, ◌≤◌, arith, length}
use Rattle.linked_parts.specs.declared.linked.LinkedAttribute.{LinkedAttribute}
use Rattle.class_faults.specs.CyclicFaults.{MarkedFault, bases_of_each}
use Rattle.class_faults.proofs.CyclicLaws.{marks_noted}
use Rattle.class_faults.proofs.PlaceFaultLaws.{before_all, before_none, before_step, got_at}
use Rattle.linked_types.proofs.cyclic_attributes.note_marked.Goals as goal

pub loop-place-init : goal.loop-place-init
loop-place-init c =
    before_none (λ k (x : LinkedAttribute). MarkedFault c.args.cyclic.now k x.head) c.args.attributes.now
    c.args.faults.now.first

pub loop-place-preserved : goal.loop-place-preserved
loop-place-preserved c =
    let k = c.loop-place.place in
    let item = c.index-attributes-place.result in
    let within : k < length c.args.attributes.now = omega (arith, c.loop-place-test.true) in
    before_step (λ k (x : LinkedAttribute). MarkedFault c.args.cyclic.now k x.head) c.args.attributes.now k item
    (got_at c.args.attributes.now k item within c.index-attributes-place.is) c.loop-place.invariant
    c.note_cyclic.ensures

pub returns : goal.returns
returns c = λ marking.
    let past : length c.args.attributes.now ≤ c.loop-place.place = omega (arith, c.loop-place-test.false) in
    marks_noted (λ (x : LinkedAttribute). x.head) (bases_of_each c.args.attributes.now) c.args.cyclic.now
    c.args.attributes.now
    marking (before_all (λ k (x : LinkedAttribute). MarkedFault c.args.cyclic.now k x.head) c.args.attributes.now
    c.loop-place.place past c.loop-place.invariant)
