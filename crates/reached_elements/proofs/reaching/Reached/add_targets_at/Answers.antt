-- The element that stands at the place, and none.
use Rattle.std.proofs.Common.{sym, ◌∙◌}
use Rattle.std.proofs.lemmas.Result.{on_ok_weaker}
use Rattle.link_graphs.specs.Leading.{target_lists}
use Rattle.reached_elements.proofs.ReachLaws.{at_no_place, at_place}
use Rattle.reached_elements.proofs.reaching.Reached.add_targets_at.Goals as goal

pub returns-in-Some : goal.returns-in-Some
returns-in-Some c = on_ok_weaker c.add_targets.result (λ d. at_place (target_lists c.args.graph.now)
    c.args.self.now.elements.items c.args.place c.in-Some.element (sym c.element_at.ensures ∙ c.in-Some.is) d)
    c.add_targets.ensures

pub returns-in-None : goal.returns-in-None
returns-in-None c = at_no_place (target_lists c.args.graph.now) c.args.self.now.elements.items c.args.place
    c.args.self.now.marks c.args.self.now.elements.items (sym c.element_at.ensures ∙ c.in-None.is)
