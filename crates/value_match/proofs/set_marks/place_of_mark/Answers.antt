use Rattle.std.proofs.Common.{rules, ◌≡◌, ◌+◌, ◌∷◌, drop, true, sym, ap, ◌∙◌, arith}
use Rattle.std.proofs.lemmas.List.{drop_more}
use Rattle.value_match.specs.SetMarks.{key_at}
use Rattle.value_match.specs.SlotKeys.{has_mark, marked_key}
use Rattle.value_match.proofs.SetLaws.{here_at, here_begins, key_found, later_at, unmarked_end}
use Rattle.value_match.proofs.set_marks.place_of_mark.Goals as goal

pub loop-i-preserved : goal.loop-i-preserved
loop-i-preserved c =
    let xs = c.args.items.now in
    let ys = c.args.slots.now in
    let i = c.loop-i.i in
    let x = c.index-items-i.result in
    let y = c.index-slots-i.result in
    let part : drop i xs ≡ x ∷ drop (i + 1) xs = drop_more xs i x (omega arith)
    ∙ ap (λ z. z ∷ drop (i + 1) xs) (search rules) in
    let slot : drop i ys ≡ y ∷ drop (i + 1) ys = drop_more ys i y (omega arith)
    ∙ ap (λ z. z ∷ drop (i + 1) ys) (search rules) in
    c.loop-i.invariant
    ∙ later_at i xs ys x y c.args.mark part slot (sym c.has_mark.ensures ∙ c.if-has_mark.false)

pub returns-then-has_mark : goal.returns-then-has_mark
returns-then-has_mark c =
    let xs = c.args.items.now in
    let ys = c.args.slots.now in
    let i = c.loop-i.i in
    let x = c.index-items-i.result in
    let y = c.index-slots-i.result in
    let front : drop i xs ≡ x ∷ drop (i + 1) xs = drop_more xs i x (omega arith)
    ∙ ap (λ z. z ∷ drop (i + 1) xs) (search rules) in
    let first : drop i ys ≡ y ∷ drop (i + 1) ys = drop_more ys i y (omega arith)
    ∙ ap (λ z. z ∷ drop (i + 1) ys) (search rules) in
    let found : has_mark x y c.args.mark ≡ true = sym c.has_mark.ensures ∙ c.if-has_mark.true in
    let key : key_at xs ys c.args.mark ≡ marked_key x y = c.loop-i.invariant
    ∙ here_at i xs ys x y c.args.mark front first found in (
      omega arith,
      omega arith,
      here_begins x y c.args.mark (key_at xs ys c.args.mark) found key,
      λ part slot p s. key ∙ key_found xs ys i x part y slot (omega arith) (omega arith) c.index-items-i.is
          c.index-slots-i.is p s,
    )

pub returns : goal.returns
returns c =
    c.loop-i.invariant ∙ unmarked_end c.args.items.now c.args.slots.now c.loop-i.i c.args.mark (omega arith)
