-- One more type.
use Rattle.asn1_tags.proofs.OrderedFacts.{one_counted}
use Rattle.asn1_tags.proofs.fact_finding.count_cyclic.Goals as goal

pub loop-number-preserved : goal.loop-number-preserved
loop-number-preserved c = λ marks counted. one_counted c.loop-number.number c.loop-number.nodes.items
    c.count_marked.new.nodes.items marks (c.loop-number.invariant marks counted) c.count_marked.ensures.marked
    c.count_marked.ensures.unmarked
