-- A class more, and all of them.
use Rattle.std.proofs.Common.{◌<◌, ◌≤◌, ◌∙◌, ap, arith, length}
use Rattle.std.proofs.lemmas.List.{take_all}
use Rattle.class_faults.specs.CyclicFaults.{superclasses_of}
use Rattle.joined_properties.proofs.GraphLaws.{graph_step, items}
use Rattle.std.proofs.Common.{map}
use Rattle.joined_properties.proofs.cyclic_classes.class_graph.Goals as goal

pub loop-class-init : goal.loop-class-init
loop-class-init c = ap (map items) c.new-targets.ensures.items

pub loop-class-preserved : goal.loop-class-preserved
loop-class-preserved c =
    let within : c.loop-class.class-index < length c.args.classes.now = omega (arith, c.loop-class-test.true) in
    graph_step c.loop-class.targets.items c.push.new.self.items c.in_ok-superclasses.field-0 c.args.classes.now
    c.loop-class.class-index c.class-item.result within c.class-item.is c.in_ok-push.ensures.items
    c.loop-class.invariant c.in_ok-superclasses.ensures

pub returns : goal.returns
returns c =
    let past : length c.args.classes.now ≤ c.loop-class.class-index = omega (arith, c.loop-class-test.false) in
    c.loop-class.invariant ∙ ap superclasses_of (take_all c.loop-class.class-index c.args.classes.now past)
