-- One member after the other.
use Rattle.std.proofs.Common.{rules, ◌≡◌, ◌+◌, ◌∷◌, ◌∙◌, [], ap, arith, drop, sym}
use Rattle.std.proofs.lemmas.List.{drop_more}
use Rattle.ber_values.proofs.DecodingLaws.{nothing_left}
use Rattle.term_values.specs.SetMembers.{added}
use Rattle.term_values.specs.Typed.{listed}
use Rattle.term_values.specs.Written.{der}
use Rattle.fitting_members.proofs.MemberLaws.{added_further, none_added}
use Rattle.fitting_members.proofs.adding.add_each.Goals as goal

pub loop-value-preserved : goal.loop-value-preserved
loop-value-preserved c =
    let e = der c.args.member.now in
    let xs = c.as_slice-value-items.result.now in
    let i = c.loop-value.value-index in
    let x = c.value-item.result in
    let left : drop i xs ≡ x ∷ drop (i + 1) xs = drop_more xs i x (search rules)
    ∙ ap (λ y. y ∷ drop (i + 1) xs) (search rules) in
    let so_far = c.loop-value.invariant in (
      so_far.0 ∙ ap (λ ys. added e (listed c.loop-value.items.items) (listed ys)) left
          ∙ added_further e x (listed c.loop-value.items.items) (listed c.add_one.new.items.items)
          (listed (drop (i + 1) xs)) c.in_ok-add_one.ensures.added,
      c.in_ok-add_one.ensures.rising,
      λ before so. c.in_ok-add_one.ensures.made before (so_far.2 before so),
    )

pub returns-clause-added : goal.returns-clause-added
returns-clause-added c =
    let e = der c.args.member.now in
    let xs = c.as_slice-value-items.result.now in
    let so_far = c.loop-value.invariant in
    let none : drop c.loop-value.value-index xs ≡ [] = nothing_left xs c.loop-value.value-index (omega arith) in
    sym (so_far.0 ∙ ap (λ ys. added e (listed c.loop-value.items.items) (listed ys)) none
    ∙ none_added e c.loop-value.items.items so_far.1)
