-- One assignment more, and all of them.
use Rattle.std.proofs.Common.{◌≤◌, ◌++◌, ◌∷◌, [], ◌∙◌, ap, arith, length, sym, take}
use Rattle.std.proofs.lemmas.List.{append-nil, append_assoc, take_all}
use Rattle.gdmo_linking.proofs.PlaceLaws.{own_more, own_places}
use Rattle.gdmo_linking.proofs.linking.push_places.Goals as goal

pub loop-place-init : goal.loop-place-init
loop-place-init c = sym (append-nil c.args.places.now.items)

pub loop-place-preserved : goal.loop-place-preserved
loop-place-preserved c =
    let before = c.args.places.now.items in
    let own = c.args.own.now in
    let place = c.loop-place.place in
    let home = c.args.home in
    c.in_ok-push.ensures.items ∙
    ap (λ ys. ys ++ (home, place) ∷ []) c.loop-place.invariant ∙
    append_assoc before (own_places home 0 (take place own)) ((home, place) ∷ []) ∙
    ap (λ ys. before ++ ys) (sym (own_more home 0 place place own (omega (arith, c.loop-place-test.true)) (omega arith)))

pub returns : goal.returns
returns c =
    let past : length c.args.own.now ≤ c.loop-place.place = omega (arith, c.loop-place-test.false) in
    c.loop-place.invariant ∙ ap (λ xs. c.args.places.now.items ++ own_places c.args.home 0 xs)
    (take_all c.loop-place.place c.args.own.now past)
