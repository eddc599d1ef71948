use Rattle.std.proofs.Common.{rules, ◌≡◌, ◌+◌, ◌∷◌, drop, sym, ap, ◌∙◌, subst, arith}
use Rattle.std.proofs.lemmas.List.{drop_more}
use Rattle.term_values.specs.Typed.{listed}
use Rattle.term_values.specs.Matching.{Have}
use Rattle.value_match.proofs.MemberLaws.{have_here, have_later}
use Rattle.value_match.proofs.SameIs.{are_equal, not_equal}
use Rattle.value_match.proofs.sets.first_place.Goals as goal

pub returns-then-is_same : goal.returns-then-is_same
returns-then-is_same c =
    let xs = c.args.members.now in
    let i = c.loop-at.at in
    let x = c.index-members-at.result in
    let v = c.args.value.now in
    let front : drop i xs ≡ x ∷ drop (i + 1) xs = drop_more xs i x (omega arith)
    ∙ ap (λ z. z ∷ drop (i + 1) xs) (search rules) in
    let same : x ≡ v = are_equal x v (sym c.is_same.ensures ∙ c.if-is_same.true) in (
      omega arith,
      subst (λ z. Have (listed xs) z) same (have_here i xs (drop (i + 1) xs) x front),
    )

pub loop-at-preserved : goal.loop-at-preserved
loop-at-preserved c =
    let xs = c.args.members.now in
    let i = c.loop-at.at in
    let x = c.index-members-at.result in
    let v = c.args.value.now in
    let front : drop i xs ≡ x ∷ drop (i + 1) xs = drop_more xs i x (omega arith)
    ∙ ap (λ z. z ∷ drop (i + 1) xs) (search rules) in
    λ h. have_later (drop i xs) (drop (i + 1) xs) x v front (not_equal x v (sym c.is_same.ensures ∙ c.if-is_same.false))
    (c.loop-at.invariant h)
