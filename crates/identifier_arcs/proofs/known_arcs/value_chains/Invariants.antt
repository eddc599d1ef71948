-- The values so far.
use Rattle.asn1_names.specs.FirstNames.{found}
use Rattle.asn1_numbers.proofs.EachLaws.{EachIs}
use Rattle.gdmo_first_names.specs.ReadModules.{HasModules}
use Rattle.gdmo_names.specs.PartTerms.{PartTerms}
use Rattle.identifier_arcs.specs.KnownArcs.{IsValueChain}
use Rattle.identifier_arcs.proofs.known_arcs.value_chains.Given as goal

abbrev pub invariant-loop-number : goal.invariant-loop-number
invariant-loop-number l = (parts : PartTerms) → HasModules parts l.tables →
    EachIs (IsValueChain parts (found l.defined)) l.number l.chains.items
