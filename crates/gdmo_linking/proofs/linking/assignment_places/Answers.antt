-- One module more, and all of them.
use Rattle.std.proofs.Common.{◌≤◌, ◌++◌, ◌∙◌, ap, arith, length, refl, sym}
use Rattle.std.proofs.lemmas.List.{take_all}
use Rattle.std.proofs.lemmas.Option.{slice_get_read}
use Rattle.gdmo_linking.proofs.PlaceLaws.{all_more, all_places, own_places}
use Rattle.gdmo_linking.proofs.linking.assignment_places.Goals as goal

pub loop-home-preserved : goal.loop-home-preserved
loop-home-preserved c =
    let xs = c.modules-modules.result.now in
    let home = c.loop-home.home in
    let x = c.index-modules-home.result in
    let at = slice_get_read xs (length xs) home x refl (omega (arith, c.loop-home-test.true)) c.index-modules-home.is in
    c.in_ok-push_places.ensures ∙
    ap (λ own. c.loop-home.places.items ++ own_places home 0 own) c.as_slice.ensures.value ∙
    ap (λ ys. ys ++ own_places home 0 x.assignments.items) c.loop-home.invariant ∙
    sym (all_more 0 home home xs x at (omega arith))

pub returns : goal.returns
returns c =
    let xs = c.modules-modules.result.now in
    let past : length xs ≤ c.loop-home.home = omega (arith, c.loop-home-test.false) in
    c.loop-home.invariant ∙ ap (all_places 0) (take_all c.loop-home.home xs past ∙ c.modules-modules.ensures)
