-- The elements before a place were added.
use Rattle.reached_elements.specs.Reaching.{AddsSome}
use Rattle.reached_elements.proofs.ReachLaws.{ListedBefore}
use Rattle.reached_elements.proofs.reaching.Reached.add_all.Given as goal

abbrev pub invariant-loop-element : goal.invariant-loop-element
invariant-loop-element l =
    AddsSome (ListedBefore l.elements l.element-index) l.initial.self.marks l.self.marks
    l.initial.self.elements.items l.self.elements.items
