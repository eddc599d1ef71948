use Rattle.std.proofs.Common.{◌≡◌, ℤ, pos, ◌≤ℤ◌, ◌<ℤ◌, ◌<◌, true, take, get_or, w64, length, sym, subst, ap, ◌∙◌, arith, rules}
use Rattle.std.proofs.lemmas.Grind.{common_steps}
use Rattle.std.proofs.lemmas.Int.{ints}
use Rattle.std.proofs.lemmas.List.{take_all}
use Rattle.term_values.specs.Bounded.{allowed, one_allows}
use mir.Val.{SFits}
use Rattle.range_sets.proofs.LeavingLaws.{all_allowed, none_held, one_is_held, some_allowed}
use Rattle.range_sets.proofs.leaving.hold_nothing.Goals as goal

pub returns-then-pair-clause-some : goal.returns-then-pair-clause-some
returns-then-pair-clause-some c = λ no.
    let x = get_or c.deref-pair-items.result.now c.loop-pair.pair-index (pos 0, pos 0) in
    let a : SFits w64 x.0 = search rules in
    let b : SFits w64 x.1 = search rules in
    let order : x.0 ≤ℤ x.1 = grind (arith, ints) in
    subst (λ xs. (n : ℤ) × (allowed xs n ≡ true)) (c.deref-pair-items.ensures.value ∙ c.bounds.view_is)
    (one_is_held c.deref-pair-items.result.now c.loop-pair.pair-index (pos 0, pos 0) (omega arith) order)

pub loop-pair-preserved : goal.loop-pair-preserved
loop-pair-preserved c =
    let x = get_or c.deref-pair-items.result.now c.loop-pair.pair-index (pos 0, pos 0) in
    let a : SFits w64 x.0 = search rules in
    let b : SFits w64 x.1 = search rules in
    let order : x.1 <ℤ x.0 = grind (arith, ints) in
    none_held _ c.loop-pair.pair-index (pos 0, pos 0) (omega arith) order c.loop-pair.invariant

pub returns-clause-nothing : goal.returns-clause-nothing
returns-clause-nothing c = λ full n.
    let some : 0 < length c.args.bounds.now = first_of (search rules, grind (arith, common_steps)) in
    let whole : take c.loop-pair.pair-index c.deref-pair-items.result.now ≡ c.deref-pair-items.result.now =
    take_all _ c.deref-pair-items.result.now (omega arith) in
    some_allowed c.args.bounds.now n some
    ∙ ap (λ xs. one_allows xs n) (sym (whole ∙ c.deref-pair-items.ensures.value ∙ c.bounds.view_is))
    ∙ c.loop-pair.invariant n

pub returns-clause-some : goal.returns-clause-some
returns-clause-some c = λ no.
    let none : length c.args.bounds.now ≡ 0 = first_of (search rules, grind (arith, common_steps)) in
    (pos 0, all_allowed _ none)
