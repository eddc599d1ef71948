use Rattle.std.proofs.Common.{map, take}
use Rattle.asn1_names.specs.ModuleTerms.{TypeTerm}
use Rattle.asn1_names.specs.NumbersFound.{TellsNames}
use Rattle.asn1_names.specs.TermViews.{module_terms, range_term}
use Rattle.asn1_resolve.specs.FaultSets.{AnyOf, In, IsFirstOf}
use Rattle.asn1_resolve.specs.TypeFaults.{RangeFaults}
use Rattle.asn1_resolve.proofs.constraint_faults.judge_ranges.Given as goal

abbrev pub invariant-loop-range : goal.invariant-loop-range
invariant-loop-range l = (of : TypeTerm) → TellsNames (module_terms l.numbers) l.home.module of l.base l.own →
    IsFirstOf (In l.home.document (AnyOf (RangeFaults (module_terms l.numbers) l.home.module of)
    (map range_term (take l.range-index l.ranges)))) l.first
