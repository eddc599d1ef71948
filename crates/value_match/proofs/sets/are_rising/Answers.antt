use Rattle.std.proofs.Common.{rules, ◌≡◌, ◌+◌, ◌-◌, ◌∷◌, drop, sym, ap, ◌∙◌, subst, arith, length-drop}
use Rattle.std.proofs.lemmas.List.{drop_more}
use Rattle.value_match.specs.MemberKeys.{member_key}
use Rattle.value_match.specs.RisingMembers.{AreRising}
use Rattle.value_match.proofs.OrderLaws.{rising_next, rising_short}
use Rattle.value_match.proofs.sets.are_rising.Goals as goal

pub loop-next-preserved : goal.loop-next-preserved
loop-next-preserved c h =
    let xs = c.args.members.now in
    let i = c.loop-next.next in
    let x = c.index-members-last.result in
    let y = c.index-members-next.result in
    let key = member_key c.args.syntax.now in
    let up : i - 1 + 1 ≡ i = omega arith in
    let first : drop (i - 1) xs ≡ x ∷ drop i xs = drop_more xs (i - 1) x (omega arith)
    ∙ ap (λ z. z ∷ drop (i - 1 + 1) xs) (search rules) ∙ ap (λ n. x ∷ drop n xs) up in
    let second : drop i xs ≡ y ∷ drop (i + 1) xs = drop_more xs i y (omega arith)
    ∙ ap (λ z. z ∷ drop (i + 1) xs) (search rules) in
    let rest : AreRising key (drop i xs) = subst (λ n. AreRising key (drop n xs)) (omega arith) h in
    c.loop-next.invariant (subst (λ zs. AreRising key zs) (sym first) (rising_next key x y (drop i xs)
    (drop (i + 1) xs) second
    (c.may_precede.ensures.rises (key x) (key y) c.order_of_members.ensures (search rules)) rest))

pub returns : goal.returns
returns c e =
    let xs = c.args.members.now in
    let i = c.loop-next.next in
    let key = member_key c.args.syntax.now in
    c.loop-next.invariant (rising_short key (drop (i - 1) xs) (omega (arith, length-drop (i - 1) xs)))
