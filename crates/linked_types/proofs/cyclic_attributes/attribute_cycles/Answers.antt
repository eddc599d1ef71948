-- What is found of the graph.
use Rattle.std.specs.Prelude.{IfOk}
use Rattle.std.proofs.Math.Path.{subst}
use Rattle.link_graphs.specs.Cycles.{IsBehindTargets, MarkCycles}
use Rattle.linked_types.proofs.cyclic_attributes.attribute_cycles.Goals as goal

pub returns-clause-cyclic : goal.returns-clause-cyclic
returns-clause-cyclic c = subst (λ lists. IfOk c.find_cycles.result (λ cycles. MarkCycles lists cycles.cyclic.items))
    c.in_ok-graph.ensures c.find_cycles.ensures.cyclic

pub returns-clause-order : goal.returns-clause-order
returns-clause-order c = subst (λ lists. IfOk c.find_cycles.result (λ cycles. IsBehindTargets lists cycles.order.items))
    c.in_ok-graph.ensures c.find_cycles.ensures.order
