-- What is told of the nodes.
use Rattle.asn1_resolve.proofs.NodeLaws.{told_few, told_large}
use Rattle.asn1_resolve.proofs.judging.is_few.Goals as goal

pub returns-clause-few : goal.returns-clause-few
returns-clause-few c = λ small m of is.
    let nodes = c.nodes_at.ensures m of is in
    (nodes.0, nodes.1, told_few c.nodes_at.result nodes.0 small nodes.2)

pub returns-clause-large : goal.returns-clause-large
returns-clause-large c = λ large m of is.
    let nodes = c.nodes_at.ensures m of is in
    (nodes.0, nodes.1, told_large c.nodes_at.result nodes.0 large nodes.2)

pub returns-clause-counted : goal.returns-clause-counted
returns-clause-counted c = λ m of is. let nodes = c.nodes_at.ensures m of is in (nodes.0, nodes.1)
