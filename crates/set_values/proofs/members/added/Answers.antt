use Rattle.std.proofs.Common.{rules, ◌≡◌, [], ◌∷◌, ◌+◌, IfOk, drop, sym, ap, ◌∙◌, subst, arith}
use Rattle.std.proofs.lemmas.List.{drop_more}
use Rattle.ber_values.proofs.DecodingLaws.{nothing_left, values_all}
use Rattle.ber_values.specs.Left.{values_before}
use Rattle.set_values.proofs.LoopLaws.{followed_listed, has_more, new_step}
use Rattle.term_values.specs.SetMembers.{followed_by, new_members}
use Rattle.term_values.specs.Decoding.{rising_by}
use Rattle.term_values.specs.Typed.{listed}
use Rattle.term_values.specs.ValueContents.{member_encodings}
use Rattle.term_values.specs.Written.{der}
use Rattle.set_values.proofs.members.added.Goals as goal

pub loop-value-init : goal.loop-value-init
loop-value-init c =
    let encoding = der c.args.member.now in
    let held = member_encodings encoding c.args.held.now in
    let more = new_members encoding held (listed c.as_slice-value-items.result.now) in (
      held,
      c.in_ok-there.ensures,
      ap (λ xs. followed_by xs more) (sym c.in_ok-items.ensures)
          ∙ followed_listed c.in_ok-items.items.items more,
    )

pub loop-value-preserved : goal.loop-value-preserved
loop-value-preserved c =
    let encoding = der c.args.member.now in
    let xs = c.as_slice-value-items.result.now in
    let i = c.loop-value.value-index in
    let x = c.value-item.result in
    let left : drop i xs ≡ x ∷ drop (i + 1) xs = drop_more xs i x (search rules)
    ∙ ap (λ y. y ∷ drop (i + 1) xs) (search rules) in
    let before = c.loop-value.invariant in (
      encoding x ∷ before.0,
      has_more c.loop-value.there c.push_new.new.there before.0 (encoding x) before.1 c.in_ok-push_new.ensures.grows,
      before.2 ∙ new_step encoding before.0 c.loop-value.there c.loop-value.items.items c.push_new.new.items.items x
          (drop i xs) (drop (i + 1) xs) left before.1 c.in_ok-push_new.ensures.pushed,
    )

pub returns : goal.returns
returns c =
    let encoding = der c.args.member.now in
    let xs = c.as_slice-value-items.result.now in
    let none : drop c.loop-value.value-index xs ≡ [] = nothing_left xs c.loop-value.value-index (omega arith) in
    let given : c.args.given.now ≡ listed xs = search rules in
    let before = c.loop-value.invariant in
    let all : followed_by c.args.held.now (new_members encoding (member_encodings encoding c.args.held.now)
    c.args.given.now) ≡ listed c.loop-value.items.items =
    rw given (before.2
    ∙ ap (λ ys. values_before c.loop-value.items.items (new_members encoding before.0 (listed ys))) none
    ∙ values_all c.loop-value.items.items) in
    subst (λ vs. IfOk c.rising_members.result (λ values. values ≡ rising_by encoding vs)) (sym all)
    c.rising_members.ensures
