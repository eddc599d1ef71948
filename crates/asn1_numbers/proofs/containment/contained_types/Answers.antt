-- What is found of the graph.
use Rattle.link_graphs.specs.Leading.{target_lists}
use Rattle.asn1_names.specs.TermViews.{module_terms}
use Rattle.asn1_numbers.proofs.LeadingLaws.{behind_named, cyclic_marked, if_ok_by}
use Rattle.asn1_numbers.proofs.containment.contained_types.Goals as goal

pub returns-clause-cyclic : goal.returns-clause-cyclic
returns-clause-cyclic c = if_ok_by c.find_cycles.result (λ cycles marked. cyclic_marked
    (module_terms c.args.tables.now) (target_lists c.in_ok-graph.graph) cycles.cyclic.items c.in_ok-graph.ensures
    marked) c.find_cycles.ensures.cyclic

pub returns-clause-order : goal.returns-clause-order
returns-clause-order c = if_ok_by c.find_cycles.result (λ cycles behind. behind_named
    (module_terms c.args.tables.now) (target_lists c.in_ok-graph.graph) cycles.order.items c.in_ok-graph.ensures
    behind) c.find_cycles.ensures.order
