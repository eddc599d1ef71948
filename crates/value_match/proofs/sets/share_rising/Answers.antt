use Rattle.std.proofs.Common.{rules, ◌≡◌, ◌+◌, ◌∷◌, drop, refl, ap, ◌∙◌, arith}
use Rattle.std.proofs.lemmas.List.{drop_more}
use Rattle.term_values.specs.Typed.{listed}
use Rattle.value_match.specs.MemberKeys.{member_key}
use Rattle.value_match.proofs.CommonLaws.{common_here, common_later}
use Rattle.value_match.proofs.OrderLaws.{front_on, rising_drop}
use Rattle.value_match.proofs.sets.share_rising.Goals as goal

pub returns-in-Held : goal.returns-in-Held
returns-in-Held c =
    let xs = c.args.asserted.now in
    let i = c.loop-member.member-index in
    let x = c.member-item.result in
    let front : drop i xs ≡ x ∷ drop (i + 1) xs = drop_more xs i x (omega arith)
    ∙ ap (λ z. z ∷ drop (i + 1) xs) (search rules) in (
      λ e. common_here i xs (drop (i + 1) xs) x (listed c.args.held.now) front c.in-Held.ensures.known,
      λ h. refl,
    )

pub loop-member-preserved : goal.loop-member-preserved
loop-member-preserved c =
    let xs = c.args.asserted.now in
    let ys = c.args.held.now in
    let i = c.loop-member.member-index in
    let x = c.member-item.result in
    let key = member_key c.args.syntax.now in
    let front : drop i xs ≡ x ∷ drop (i + 1) xs = drop_more xs i x (omega arith)
    ∙ ap (λ z. z ∷ drop (i + 1) xs) (search rules) in
    record {
      common = λ common. common_later (drop i xs) (drop (i + 1) xs) x (listed ys) front c.in-Passed.ensures.known.0
          (c.loop-member.invariant.common common);
      front = front_on key ys c.in-Passed.at x (drop i xs) (drop (i + 1) xs) front
          (rising_drop key i xs c.requires.asserted) c.in-Passed.ensures.known.1;
      within = c.in-Passed.ensures.known.2;
      measured = c.in-Passed.ensures.measured;
    }
