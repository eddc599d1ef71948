-- The links of the assignments so far, and the numbers of those that are ends.
use Rattle.asn1_names.specs.TermViews.{module_terms}
use Rattle.asn1_numbers.specs.NumberedValues.{IsValueLink}
use Rattle.asn1_numbers.proofs.HeldLaws.{PairIs}
use Rattle.asn1_numbers.proofs.values.values_of.Given as goal

abbrev pub invariant-loop-number : goal.invariant-loop-number
invariant-loop-number l = PairIs (IsValueLink (module_terms l.tables)) l.number l.links.items l.own.items
