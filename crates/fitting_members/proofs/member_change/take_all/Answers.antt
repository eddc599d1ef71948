-- The last of those that are left.
use Rattle.std.proofs.Common.{◌≡◌, ◌+◌, ◌-◌, ◌++◌, ◌∷◌, ◌∙◌, [], ap, arith, get_or, rules, sym, take}
use Rattle.std.proofs.lemmas.List.{take_more}
use Rattle.term_values.specs.Typed.{listed}
use Rattle.fitting_members.specs.TakingBack.{without_all, without_at}
use Rattle.fitting_members.proofs.UndoLaws.{last_out}
use Rattle.fitting_members.proofs.member_change.take_all.Goals as goal

pub loop-i-preserved : goal.loop-i-preserved
loop-i-preserved c =
    let places = c.args.places.now in
    let j = c.loop-i.i - 1 in
    let at = get_or places j 0 in
    let members = listed c.loop-i.items.items in
    let up : c.loop-i.i ≡ j + 1 = omega arith in
    let left : take c.loop-i.i places ≡ take j places ++ at ∷ [] =
    ap (λ k. take k places) up ∙ take_more places j 0 (omega arith) in
    let out : listed c.take_at.new.items.items ≡ without_at at members = search (rules, c.take_at.ensures) in
    ap (without_all (take j places)) out ∙ sym (last_out (take j places) at members)
    ∙ ap (λ ps. without_all ps members) (sym left) ∙ c.loop-i.invariant
