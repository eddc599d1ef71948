-- All targets were added to none.
use Rattle.link_graphs.specs.Leading.{target_lists}
use Rattle.reached_elements.proofs.ReachLaws.{targets_told}
use Rattle.reached_elements.proofs.reaching.targets_reached.Goals as goal

pub returns : goal.returns
returns c = targets_told (target_lists c.args.graph.now) c.args.elements.now c.count-count.result
    c.none-reached.result.marks c.add_targets_of.new.self.marks c.none-reached.result.elements.items
    c.add_targets_of.new.self.elements.items c.count-count.ensures c.none-reached.ensures.marks
    c.none-reached.ensures.elements c.in_ok-add_targets_of.ensures
