use Rattle.std.proofs.Common.{rules, ◌≡◌, ◌+◌, ◌-◌, ◌∷◌, drop, ap, sym, ◌∙◌, subst, ⊎_elim, arith}
use Rattle.std.proofs.lemmas.List.{drop_more}
use Rattle.value_match.specs.SetMarks.{IsLeastMark, IsMarkFrom}
use Rattle.value_match.proofs.SetLaws.{later_at, later_there, own_there, unmarked_end}
use Rattle.value_match.proofs.set_marks.least_mark.Goals as goal

pub loop-i-init : goal.loop-i-init
loop-i-init c =
    record {
      least = λ mark low below. unmarked_end c.args.items.now c.args.slots.now c.min-count.result mark (omega arith);
      there = tt;
    }

pub loop-i-preserved : goal.loop-i-preserved
loop-i-preserved c =
    let xs = c.args.items.now in
    let ys = c.args.slots.now in
    let j = c.loop-i.i - 1 in
    let x = c.index-items-i.result in
    let y = c.index-slots-i.result in
    let from = c.args.from in
    let up : j + 1 ≡ c.loop-i.i = omega arith in
    let part : drop j xs ≡ x ∷ drop (j + 1) xs = drop_more xs j x (omega arith)
    ∙ ap (λ z. z ∷ drop (j + 1) xs) (search rules) in
    let slot : drop j ys ≡ y ∷ drop (j + 1) ys = drop_more ys j y (omega arith)
    ∙ ap (λ z. z ∷ drop (j + 1) ys) (search rules) in
    let before : IsLeastMark (drop (j + 1) xs) (drop (j + 1) ys) from c.loop-i.least = rw up c.loop-i.invariant.least in
    let there : IsMarkFrom (drop (j + 1) xs) (drop (j + 1) ys) from c.loop-i.least = rw up c.loop-i.invariant.there in
    let own = c.lesser-least.ensures in
    record {
      least = λ mark low below. later_at j xs ys x y mark part slot (c.mark_of_slot-own.ensures.other mark
          (c.at_least.ensures.other mark low (own.first mark below)))
          ∙ before mark low (own.second mark below);
      there = ⊎_elim
          (λ e. subst (λ o. IsMarkFrom (drop j xs) (drop j ys) from o) (sym e) (own_there j xs ys x y from
          c.mark_of_slot-own.result c.at_least.result part slot c.mark_of_slot-own.ensures.own c.at_least.ensures.same))
          (λ e. subst (λ o. IsMarkFrom (drop j xs) (drop j ys) from o) (sym e) (later_there j xs ys x y from
          c.loop-i.least part slot there))
          own.one;
    }

pub returns : goal.returns
returns c =
    let xs = c.args.items.now in
    let ys = c.args.slots.now in
    let end : c.loop-i.i ≡ 0 = omega arith in
    record {
      least = subst (λ k. IsLeastMark (drop k xs) (drop k ys) c.args.from c.loop-i.least) end c.loop-i.invariant.least;
      there = subst (λ k. IsMarkFrom (drop k xs) (drop k ys) c.args.from c.loop-i.least) end c.loop-i.invariant.there;
    }
