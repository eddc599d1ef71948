use Rattle.std.proofs.Common.{map, take}
use Rattle.asn1_names.specs.Constraining.{AreRanges}
use Rattle.asn1_names.specs.ModuleTerms.{TypeTerm}
use Rattle.asn1_names.specs.NumbersFound.{TellsNames}
use Rattle.asn1_names.specs.SaidNumbers.{AllSayBounds}
use Rattle.asn1_names.specs.TermViews.{module_terms, range_term}
use Rattle.asn1_types.proofs.said_numbers.range_pairs.Given as goal

abbrev pub invariant-loop-range : goal.invariant-loop-range
invariant-loop-range l = (of : TypeTerm) → TellsNames (module_terms l.numbers) l.home of l.base l.own →
    AllSayBounds (module_terms l.numbers) l.home of (map range_term l.ranges) →
    AreRanges (module_terms l.numbers) l.home of (map range_term (take l.range-index l.ranges)) l.pairs.items
