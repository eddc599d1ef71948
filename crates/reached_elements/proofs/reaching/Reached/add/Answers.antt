-- An element that was there, or isn't any, and one that is added.
use Rattle.std.proofs.Common.{◌≡◌, Some, false, refl, subst}
use Rattle.std.specs.List.{slice_get}
use Rattle.std.proofs.lemmas.Bool.{false≢true}
use Rattle.link_graphs.specs.Marking.{IsIt}
use Rattle.link_graphs.proofs.PlaceLaws.{one_of_both}
use Rattle.reached_elements.proofs.ReachLaws.{adds_none, adds_one}
use Rattle.reached_elements.proofs.reaching.Reached.add.Goals as goal

pub returns-else-lacks : goal.returns-else-lacks
returns-else-lacks c =
    let marks = c.args.self.now.marks in
    adds_none (IsIt c.args.element) marks c.args.self.now.elements.items
    (λ e is less. one_of_both marks e less (λ h. false≢true
    (c.if-lacks.ensures.1 (subst (λ x. slice_get marks x ≡ Some false) is h))))

pub returns-in_ok-push : goal.returns-in_ok-push
returns-in_ok-push c =
    let lacking = c.if-lacks.ensures.0 refl in
    rw (c.in_ok-mark.ensures lacking)
    (rw c.in_ok-push.ensures.items
    (adds_one c.args.self.now.marks c.args.self.now.elements.items c.args.element lacking))
