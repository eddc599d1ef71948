-- Of the types before the index nodes and tags are known.
use Rattle.asn1_names.specs.TermViews.{module_terms}
use Rattle.asn1_numbers.specs.NumberedTypes.{IsBehindNamed, MarkCyclic}
use Rattle.asn1_tags.specs.DraftFacts.{IsDraft}
use Rattle.asn1_tags.proofs.fact_finding.find_types.Given as goal

abbrev pub invariant-loop-number : goal.invariant-loop-number
invariant-loop-number l = MarkCyclic (module_terms l.numbers) l.cyclic → IsBehindNamed (module_terms l.numbers)
    l.order →
    IsDraft (module_terms l.numbers) l.order l.number-index l.draft
