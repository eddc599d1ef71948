-- The nodes of the types before the index are known.
use Rattle.asn1_names.specs.TermViews.{module_terms}
use Rattle.asn1_numbers.specs.NumberedTypes.{MarkCyclic}
use Rattle.asn1_tags.specs.DraftFacts.{AreCounted}
use Rattle.asn1_tags.proofs.fact_finding.count_cyclic.Given as goal

abbrev pub invariant-loop-number : goal.invariant-loop-number
invariant-loop-number l = MarkCyclic (module_terms l.tables) l.cyclic →
    AreCounted (module_terms l.tables) 0 l.fn.nodes.items → AreCounted (module_terms l.tables) l.number l.nodes.items
