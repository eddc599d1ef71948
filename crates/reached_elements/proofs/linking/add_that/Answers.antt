-- A target that there may be.
use Rattle.link_graphs.specs.Leading.{target_lists}
use Rattle.reached_elements.proofs.LinkLaws.{that_none, that_one}
use Rattle.std.proofs.lemmas.Result.{on_ok_weaker}
use Rattle.reached_elements.proofs.linking.add_that.Goals as goal

pub returns-in-Some : goal.returns-in-Some
returns-in-Some c = on_ok_weaker c.add_link.result (λ d. that_one (target_lists c.args.graph.now)
    (target_lists c.add_link.new.graph) c.args.element c.in-Some.target c.args.target c.in-Some.is d)
    c.add_link.ensures

pub returns-in-None : goal.returns-in-None
returns-in-None c = that_none (target_lists c.args.graph.now) c.args.element c.args.target c.in-None.is
