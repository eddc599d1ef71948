-- An element that is marked, or past the end, stays as it is.
use Rattle.std.proofs.Common.{◌≡◌, refl, false, subst, Some}
use Rattle.std.specs.List.{slice_get}
use Rattle.std.proofs.lemmas.Bool.{false≢true}
use Rattle.link_graphs.specs.Marking.{IsIt}
use Rattle.link_graphs.proofs.PlaceLaws.{one_of_both}
use Rattle.link_graphs.proofs.MarkLaws.{marks_same, marks_one}
use Rattle.link_graphs.proofs.marking.Marks.mark.Goals as goal

pub returns-else-is_unmarked : goal.returns-else-is_unmarked
returns-else-is_unmarked c =
    let marks = c.args.self.now.marked.items in
    marks_same marks c.args.self.now.found.items (IsIt c.args.element)
    (λ e is less. one_of_both marks e less (λ h. false≢true
    (c.if-is_unmarked.ensures.1 (subst (λ x. slice_get marks x ≡ Some false) is h))))

pub returns-in_ok-push : goal.returns-in_ok-push
returns-in_ok-push c =
    rw c.in_ok-push.ensures.items
    (marks_one c.args.self.now.marked.items c.args.self.now.found.items c.args.element
    (c.if-is_unmarked.ensures.0 refl))
