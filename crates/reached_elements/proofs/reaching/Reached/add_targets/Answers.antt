-- The row of targets that there is, and none.
use Rattle.std.proofs.Common.{ap, get_or, length, subst, sym, ◌∙◌}
use Rattle.std.proofs.lemmas.Bool.{ltb-true}
use Rattle.std.proofs.lemmas.Option.{slice_get_read}
use Rattle.std.proofs.lemmas.Result.{on_ok_weaker}
use Rattle.link_graphs.specs.Marking.{IsListed}
use Rattle.reached_elements.specs.Reaching.{AddsSome}
use Rattle.reached_elements.proofs.ReachLaws.{row_there}
use Rattle.reached_elements.proofs.reaching.Reached.add_targets.Goals as goal

pub returns-in-Some : goal.returns-in-Some
returns-in-Some c =
    let rows = c.args.graph.now.targets.items in
    let got = c.in-Some.ensures.lookup in
    let at = slice_get_read rows _ c.args.element c.in-Some.targets.now (ap length c.deref.ensures.value)
    (ltb-true _ _ (sym got.0)) (got.1 ∙ ap (λ xs. get_or xs c.args.element c.in-Some.targets.now)
    c.deref.ensures.value) in
    let same = c.as_slice.ensures.value ∙ sym (row_there rows c.args.element c.in-Some.targets.now at) in
    on_ok_weaker c.add_all.result (λ d. subst (λ xs. AddsSome (IsListed xs) c.args.self.now.marks
    c.add_all.new.self.marks c.args.self.now.elements.items c.add_all.new.self.elements.items) same d)
    c.add_all.ensures
