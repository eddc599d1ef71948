use Rattle.std.proofs.Common.{rules, ◌≡◌, [], ◌∷◌, ◌+◌, drop, sym, ap, ◌∙◌, arith}
use Rattle.std.proofs.lemmas.List.{drop_more}
use Rattle.ber_values.proofs.DecodingLaws.{nothing_left, values_all}
use Rattle.ber_values.specs.Left.{values_before}
use Rattle.set_values.proofs.LoopLaws.{other_step}
use Rattle.term_values.specs.SetMembers.{other_members}
use Rattle.term_values.specs.Typed.{listed}
use Rattle.term_values.specs.ValueContents.{member_encodings}
use Rattle.term_values.specs.Written.{der}
use Rattle.set_values.proofs.members.removed.Goals as goal

pub loop-value-preserved : goal.loop-value-preserved
loop-value-preserved c =
    let encoding = der c.args.member.now in
    let taken = member_encodings encoding c.args.given.now in
    let xs = c.as_slice-value-items.result.now in
    let i = c.loop-value.value-index in
    let x = c.value-item.result in
    let left : drop i xs ≡ x ∷ drop (i + 1) xs = drop_more xs i x (search rules)
    ∙ ap (λ y. y ∷ drop (i + 1) xs) (search rules) in
    c.loop-value.invariant ∙ other_step encoding taken c.in_ok-taken.taken c.loop-value.items.items
    c.push_other.new.items.items x (drop i xs) (drop (i + 1) xs) left c.in_ok-taken.ensures c.in_ok-push_other.ensures

pub returns : goal.returns
returns c =
    let encoding = der c.args.member.now in
    let taken = member_encodings encoding c.args.given.now in
    let xs = c.as_slice-value-items.result.now in
    let none : drop c.loop-value.value-index xs ≡ [] = nothing_left xs c.loop-value.value-index (omega arith) in
    let held : c.args.held.now ≡ listed xs = search rules in
    rw held (sym (c.loop-value.invariant
    ∙ ap (λ ys. values_before c.loop-value.items.items (other_members encoding taken (listed ys))) none
    ∙ values_all c.loop-value.items.items))
