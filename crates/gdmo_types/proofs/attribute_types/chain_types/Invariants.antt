-- The types at the ends of the chains so far.
use Rattle.std.proofs.Common.{◌≡◌, take}
use Rattle.asn1_names.specs.TermViews.{module_terms}
use Rattle.gdmo_names.specs.InStep.{AreEach}
use Rattle.gdmo_names.specs.PartTerms.{PartTerms, module_terms_of}
use Rattle.gdmo_types.specs.TypeChains.{TellsChain}
use Rattle.gdmo_types.proofs.attribute_types.chain_types.Given as goal

abbrev pub invariant-loop-end : goal.invariant-loop-end
invariant-loop-end l = (parts : PartTerms) → module_terms l.types ≡ module_terms_of parts →
    AreEach (TellsChain parts l.templates) (take l.end-index l.ends) l.answers.items
