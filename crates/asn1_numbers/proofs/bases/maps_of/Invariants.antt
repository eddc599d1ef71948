-- The named numbers of the assignments so far.
use Rattle.asn1_names.specs.TermViews.{module_terms}
use Rattle.asn1_numbers.specs.NumberedBases.{IsMapOf}
use Rattle.asn1_numbers.proofs.EachLaws.{EachIs}
use Rattle.asn1_numbers.proofs.bases.maps_of.Given as goal

abbrev pub invariant-loop-number : goal.invariant-loop-number
invariant-loop-number l = EachIs (IsMapOf (module_terms l.tables)) l.number l.maps.items
