-- The chains of the values, with what is told of them.
use Rattle.std.proofs.Common.{List, subst}
use Rattle.identifier_arcs.specs.declared.chains.Chain.{Chain}
use Rattle.identifier_arcs.specs.Chains.{AreTold}
use Rattle.identifier_arcs.proofs.known_arcs.known_arcs.Goals as goal

pub returns-clause-known : goal.returns-clause-known
returns-clause-known c = λ parts has are. record {
  are_defined = are.are_defined;
  chains = c.in_ok-chains.chains.items;
  are_chains = c.in_ok-chains.ensures parts has;
  are_told = subst (λ (xs : List Chain). AreTold c.in_ok-numbers.numbers.lists xs c.in_ok-numbers.numbers.told.items)
      c.as_slice.ensures.value c.in_ok-numbers.ensures;
}
