-- The targets of the links so far.
use Rattle.std.proofs.Common.{◌≡◌, ℕ, take, Vec, Global}
use Rattle.std.specs.Prelude.{map}
use Rattle.link_graphs.specs.ChainEnds.{link_targets}
use Rattle.link_graphs.proofs.chains.graph_of_links.Given as goal

abbrev pub invariant-loop-link : goal.invariant-loop-link
invariant-loop-link l =
    map (λ (xs : Vec ℕ Global). xs.items) l.targets.items ≡ map link_targets (take l.link-index l.links)
