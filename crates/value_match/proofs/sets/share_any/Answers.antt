use Rattle.std.proofs.Common.{rules, ◌≡◌, ◌+◌, ◌∷◌, drop, refl, ap, ◌∙◌, arith}
use Rattle.std.proofs.lemmas.List.{drop_more}
use Rattle.term_values.specs.Typed.{listed}
use Rattle.value_match.proofs.CommonLaws.{common_here}
use Rattle.value_match.proofs.sets.share_any.Goals as goal

pub returns-in-Some : goal.returns-in-Some
returns-in-Some c =
    let xs = c.args.asserted.now in
    let i = c.loop-member.member-index in
    let x = c.member-item.result in
    let front : drop i xs ≡ x ∷ drop (i + 1) xs = drop_more xs i x (omega arith)
    ∙ ap (λ z. z ∷ drop (i + 1) xs) (search rules) in (
      λ e. common_here i xs (drop (i + 1) xs) x (listed c.args.held.now) front c.in-Some.ensures.1,
      λ h. refl,
    )
