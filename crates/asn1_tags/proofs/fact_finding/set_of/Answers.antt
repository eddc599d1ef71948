-- A type with more nodes has no promise.
use Rattle.asn1_tags.proofs.FactLaws.{too_many}
use Rattle.asn1_tags.proofs.fact_finding.set_of.Goals as goal

pub returns-else-nodes-le-MOST_NODES : goal.returns-else-nodes-le-MOST_NODES
returns-else-nodes-le-MOST_NODES c = λ known count n nodes small.
    absurd (too_many count c.if-nodes-le-MOST_NODES.false nodes small)
