use Rattle.std.proofs.Common.{◌≡◌, pos, ◌≤ℤ◌, ◌<ℤ◌, ◌<◌, take, get_or, w64, length, sym, ap, to_z-of_z, ◌∙◌, arith, rules}
use Rattle.std.proofs.lemmas.Grind.{common_steps}
use Rattle.std.proofs.lemmas.Int.{ints}
use Rattle.std.proofs.lemmas.List.{take_all}
use Rattle.term_values.specs.Bounded.{allowed, one_allows}
use mir.Val.{SFits}
use Rattle.range_sets.proofs.LeavingLaws.{none_held, some_allowed}
use Rattle.permitted_bounds.proofs.EmptyLaws.{held_is_allowed}
use Rattle.permitted_bounds.proofs.permitted.some_allowed.Goals as goal

pub returns-then-pair : goal.returns-then-pair
returns-then-pair c =
    let x = get_or c.as_slice-pairs.result.now c.loop-pair.pair-index (pos 0, pos 0) in
    let a : SFits w64 x.0 = search rules in
    let b : SFits w64 x.1 = search rules in
    let order : x.0 ≤ℤ x.1 = grind (arith, ints) in
    ap (λ n. allowed c.args.bounds.now n) (to_z-of_z a)
    ∙ ap (λ xs. allowed xs x.0) (sym (c.as_slice-pairs.ensures.value ∙ c.bounds.view_is))
    ∙ held_is_allowed c.as_slice-pairs.result.now c.loop-pair.pair-index (pos 0, pos 0) (omega arith) order

pub loop-pair-preserved : goal.loop-pair-preserved
loop-pair-preserved c =
    let x = get_or c.as_slice-pairs.result.now c.loop-pair.pair-index (pos 0, pos 0) in
    let a : SFits w64 x.0 = search rules in
    let b : SFits w64 x.1 = search rules in
    let order : x.1 <ℤ x.0 = grind (arith, ints) in
    none_held _ c.loop-pair.pair-index (pos 0, pos 0) (omega arith) order c.loop-pair.invariant

pub returns : goal.returns
returns c = λ n.
    let some : 0 < length c.args.bounds.now = first_of (search rules, grind (arith, common_steps)) in
    let whole : take c.loop-pair.pair-index c.as_slice-pairs.result.now ≡ c.as_slice-pairs.result.now =
    take_all _ c.as_slice-pairs.result.now (omega arith) in
    some_allowed c.args.bounds.now n some
    ∙ ap (λ xs. one_allows xs n) (sym (whole ∙ c.as_slice-pairs.ensures.value ∙ c.bounds.view_is))
    ∙ c.loop-pair.invariant n
