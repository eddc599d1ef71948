-- The elements before a place of the order are told.
use Rattle.identifier_arcs.proofs.ChainLaws.{ToldBefore}
use Rattle.identifier_arcs.proofs.chains.chain_numbers.Given as goal

abbrev pub invariant-loop-place : goal.invariant-loop-place
invariant-loop-place l = ToldBefore l.lists l.chains l.cycles.order.items l.place l.told.items
