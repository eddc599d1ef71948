-- The targets of the elements so far.
use Rattle.std.proofs.Common.{◌≡◌, ℕ, take, Vec, Global}
use Rattle.std.specs.Prelude.{map}
use Rattle.identifier_arcs.specs.Chains.{chain_lists}
use Rattle.identifier_arcs.proofs.chains.graph_of.Given as goal

abbrev pub invariant-loop-chain : goal.invariant-loop-chain
invariant-loop-chain l =
    map (λ (xs : Vec ℕ Global). xs.items) l.targets.items ≡ chain_lists (take l.chain-index l.chains)
