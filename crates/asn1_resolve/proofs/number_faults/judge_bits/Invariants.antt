use Rattle.std.proofs.Common.{map, take}
use Rattle.asn1_names.specs.TermViews.{bit_term, module_terms}
use Rattle.asn1_resolve.specs.FaultSets.{AnyOf, In, IsFirstOf}
use Rattle.asn1_resolve.specs.TypeFaults.{NumberFaults}
use Rattle.asn1_resolve.proofs.number_faults.judge_bits.Given as goal

abbrev pub invariant-loop-named : goal.invariant-loop-named
invariant-loop-named l = IsFirstOf (In l.home.document (AnyOf
    (λ x. NumberFaults (module_terms l.numbers) l.home.module x.number)
    (map bit_term (take l.named-index l.listed)))) l.first
