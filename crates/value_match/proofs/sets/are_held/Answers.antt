use Rattle.std.proofs.Common.{rules, ◌≡◌, ◌+◌, ◌∷◌, drop, ap, ◌∙◌, arith}
use Rattle.std.proofs.lemmas.Bool.{false≢true}
use Rattle.std.proofs.lemmas.List.{drop_more}
use Rattle.term_values.specs.Typed.{listed}
use Rattle.value_match.proofs.MemberLaws.{not_held}
use Rattle.value_match.proofs.sets.are_held.Goals as goal

pub returns-in-None : goal.returns-in-None
returns-in-None c =
    let xs = c.args.asserted.now in
    let i = c.loop-member.member-index in
    let x = c.member-item.result in
    let front : drop i xs ≡ x ∷ drop (i + 1) xs = drop_more xs i x (omega arith)
    ∙ ap (λ z. z ∷ drop (i + 1) xs) (search rules) in (
      λ e. absurd (false≢true e),
      λ all. absurd (not_held i xs (drop (i + 1) xs) x (listed c.args.held.now) front c.in-None.ensures all),
    )
