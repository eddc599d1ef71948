-- The order was gone through from its end down to a place.
use Rattle.std.proofs.Common.{◌≡◌, ◌-◌, [], length}
use Rattle.link_graphs.specs.Leading.{target_lists}
use Rattle.link_graphs.proofs.OrderLaws.{IsSwept}
use Rattle.link_graphs.proofs.cycles.cyclic_elements.Given as goal

abbrev pub invariant-loop-passed : goal.invariant-loop-passed
invariant-loop-passed l = record {
  swept : IsSwept (target_lists l.graph) (target_lists l.turned) l.order (length l.order - l.passed) l.cyclic.items
      l.marks.marked.items;
  found : l.marks.found.items ≡ [];
}
