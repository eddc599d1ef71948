-- All elements up to the one at hand are reached, and nothing is being visited.
use Rattle.std.proofs.Common.{◌≡◌, ℕ, ◌<◌, [], Some, true}
use Rattle.std.specs.List.{slice_get}
use Rattle.link_graphs.specs.Leading.{target_lists}
use Rattle.link_graphs.specs.Walking.{IsWalk}
use Rattle.link_graphs.proofs.walking.finishing_order.Given as goal

abbrev pub invariant-loop-element : goal.invariant-loop-element
invariant-loop-element l = record {
  walk : IsWalk (target_lists l.graph) l.walk.finished.items [] l.walk.reached.items;
  ended : l.walk.visits.items ≡ [];
  all : (e : ℕ) → e < l.element → slice_get l.walk.reached.items e ≡ Some true;
}
