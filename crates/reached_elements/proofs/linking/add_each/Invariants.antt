-- The element leads to the targets before a place.
use Rattle.link_graphs.specs.Leading.{target_lists}
use Rattle.reached_elements.specs.Linking.{GainsLinks}
use Rattle.reached_elements.proofs.LinkLaws.{EachBefore}
use Rattle.reached_elements.proofs.linking.add_each.Given as goal

abbrev pub invariant-loop-target : goal.invariant-loop-target
invariant-loop-target l =
    GainsLinks (EachBefore l.element l.targets l.target-index) (target_lists l.initial.graph) (target_lists l.graph)
