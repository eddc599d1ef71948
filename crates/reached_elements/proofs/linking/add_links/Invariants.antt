-- The elements before a place lead to all of these.
use Rattle.link_graphs.specs.Leading.{target_lists}
use Rattle.reached_elements.specs.Linking.{GainsLinks}
use Rattle.reached_elements.proofs.LinkLaws.{AllBefore}
use Rattle.reached_elements.proofs.linking.add_links.Given as goal

abbrev pub invariant-loop-element : goal.invariant-loop-element
invariant-loop-element l =
    GainsLinks (AllBefore l.elements l.targets l.element-index) (target_lists l.initial.graph) (target_lists l.graph)
