-- Once, and again where it is needed.
use Rattle.std.proofs.Common.{subst, sym}
use Rattle.link_graphs.specs.Cycles.{IsBehindTargets, MarkCycles}
use Rattle.class_faults.specs.CyclicFaults.{superclasses_of}
use Rattle.joined_properties.proofs.ClosedLaws.{properties_joined}
use Rattle.joined_properties.proofs.inheriting.Inheriting.all_joined.Goals as goal

pub returns : goal.returns
returns c = λ are marks behind.
    let lists = superclasses_of c.args.self.now.classes.now in
    properties_joined c.args.self.now.values.items.now c.args.self.now.classes.now c.args.self.now.stated.now
    c.as_slice-marks.result.now c.as_slice-order.result.now c.in_ok-known.known.items c.join_in_order.new.known.items
    c.join_further.new.known.items c.in_ok-join_in_order.field-0 c.is_any-wanted.result are
    (subst (MarkCycles lists) (sym c.as_slice-marks.ensures.value) marks)
    (subst (IsBehindTargets lists) (sym c.as_slice-order.ensures.value) behind)
    c.in_ok-known.ensures c.in_ok-join_in_order.ensures c.is_any-wanted.ensures c.in_ok-join_further.ensures.again
    c.in_ok-join_further.ensures.once
