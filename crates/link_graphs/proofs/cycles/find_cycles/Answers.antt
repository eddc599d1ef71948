-- The order in which a search in depth finishes the elements.
use Rattle.link_graphs.specs.Leading.{target_lists}
use Rattle.link_graphs.proofs.OrderLaws.{behind_targets}
use Rattle.link_graphs.proofs.cycles.find_cycles.Goals as goal

pub returns-clause-order : goal.returns-clause-order
returns-clause-order c = behind_targets (target_lists c.args.graph.now) c.in_ok-order.order.items c.in_ok-order.ensures
