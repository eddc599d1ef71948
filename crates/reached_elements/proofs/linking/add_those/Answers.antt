-- An element that there may be.
use Rattle.link_graphs.specs.Leading.{target_lists}
use Rattle.reached_elements.proofs.LinkLaws.{those_none, those_one}
use Rattle.std.proofs.lemmas.Result.{on_ok_weaker}
use Rattle.reached_elements.proofs.linking.add_those.Goals as goal

pub returns-in-Some : goal.returns-in-Some
returns-in-Some c = on_ok_weaker c.add_each.result (λ d. those_one (target_lists c.args.graph.now)
    (target_lists c.add_each.new.graph) c.in-Some.element c.args.element c.args.targets.now c.in-Some.is d)
    c.add_each.ensures

pub returns-in-None : goal.returns-in-None
returns-in-None c =
    those_none (target_lists c.args.graph.now) c.args.element c.args.targets.now c.in-None.is
