-- An attribute more, and all of them.
use Rattle.std.proofs.Common.{◌<◌, ◌≤◌, ◌∙◌, ap, arith, length}
use Rattle.std.proofs.lemmas.List.{take_all}
use Rattle.class_faults.specs.CyclicFaults.{bases_of_each}
use Rattle.linked_types.proofs.GraphLaws.{graph_step, items}
use Rattle.std.proofs.Common.{map}
use Rattle.linked_types.proofs.cyclic_attributes.attribute_graph.Goals as goal

pub loop-attribute-init : goal.loop-attribute-init
loop-attribute-init c = ap (map items) c.new-targets.ensures.items

pub loop-attribute-preserved : goal.loop-attribute-preserved
loop-attribute-preserved c =
    let within : c.loop-attribute.attribute-index < length c.args.attributes.now = omega
    (arith, c.loop-attribute-test.true) in
    graph_step c.loop-attribute.targets.items c.push.new.self.items c.in_ok-bases.field-0 c.args.attributes.now
    c.loop-attribute.attribute-index c.attribute-item.result within c.attribute-item.is c.in_ok-push.ensures.items
    c.loop-attribute.invariant c.in_ok-bases.ensures

pub returns : goal.returns
returns c =
    let past : length c.args.attributes.now ≤ c.loop-attribute.attribute-index = omega
    (arith, c.loop-attribute-test.false) in
    c.loop-attribute.invariant ∙ ap bases_of_each (take_all c.loop-attribute.attribute-index c.args.attributes.now past)
