-- The last of those that are left.
use Rattle.std.proofs.Common.{◌≡◌, ◌++◌, ◌∷◌, ◌∙◌, [], ap, rules, sym}
use Rattle.term_values.specs.Typed.{listed}
use Rattle.fitting_members.specs.TakingBack.{with_all}
use Rattle.fitting_members.proofs.UndoLaws.{last_in}
use Rattle.fitting_members.proofs.member_change.put_all.Goals as goal

pub loop-removal-preserved : goal.loop-removal-preserved
loop-removal-preserved c =
    let removal = c.in-Some.removal in
    let rest = c.pop.new.self.items in
    let members = listed c.loop-removal.items.items in
    let left : c.loop-removal.left.items ≡ rest ++ removal ∷ [] = search (rules, c.in-Some.ensures.items) in
    ap (with_all rest) c.in_ok-put_at.ensures ∙ sym (last_in rest removal members)
    ∙ ap (λ rs. with_all rs members) (sym left) ∙ c.loop-removal.invariant
