-- The ends of the elements before a place of the order are told.
use Rattle.link_graphs.proofs.ChainLaws.{ToldBefore}
use Rattle.link_graphs.proofs.chains.chain_ends.Given as goal

abbrev pub invariant-loop-place : goal.invariant-loop-place
invariant-loop-place l = ToldBefore l.links l.order.items l.place l.ends.items
