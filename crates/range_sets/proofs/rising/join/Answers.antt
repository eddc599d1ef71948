use Rattle.std.proofs.Common.{◌≡◌, pos, [], ◌∷◌, ◌++◌, ◌≤ℤ◌, ◌<ℤ◌, ◌+ℤ◌, w64, refl, arith, rules}
use Rattle.std.proofs.lemmas.Grind.{common_steps}
use Rattle.std.proofs.lemmas.Int.{ints, to_z-of_z}
use Rattle.std.specs.Int.{int_max}
use mir.Val.{SFits}
use Rattle.range_sets.proofs.RisingLaws.{joins_apart_is, joins_touching_is}
use Rattle.range_sets.proofs.rising.join.Goals as goal

pub returns-in_ok-push-in-Some-2 : goal.returns-in_ok-push-in-Some-2
returns-in_ok-push-in-Some-2 c =
    let b = c.in-Some.before in
    let l = c.in-Some.last in
    let pair = c.args.pair in
    let fits_b : SFits w64 b = search rules in
    let fits_l : SFits w64 l = search rules in
    let fits_least : SFits w64 pair.0 = search rules in
    let fits_greatest : SFits w64 pair.1 = search rules in
    let was : c.args.joined.now.items ≡ c.pop.new.self.items ++ (b, l) ∷ [] =
    first_of (search rules, grind (arith, common_steps)) in
    let is : c.push-then-is_apart-2.new.self.items ≡ (c.pop.new.self.items ++ (b, l) ∷ []) ++ pair ∷ [] =
    first_of (search (rules, to_z-of_z), grind (arith, common_steps, to_z-of_z)) in
    let apart : (l +ℤ pos 1) <ℤ pair.0 = omega (arith, ints, c.if-is_apart.ensures.apart refl) in
    let some : pair.0 ≤ℤ pair.1 = omega (arith, ints) in
    joins_apart_is _ c.pop.new.self.items _ (b, l) pair was is apart some

pub returns-in_ok-push-in-Some-3 : goal.returns-in_ok-push-in-Some-3
returns-in_ok-push-in-Some-3 c =
    let b = c.in-Some.before in
    let l = c.in-Some.last in
    let pair = c.args.pair in
    let g = c.max.result in
    let fits_b : SFits w64 b = search rules in
    let fits_l : SFits w64 l = search rules in
    let fits_least : SFits w64 pair.0 = search rules in
    let fits_greatest : SFits w64 pair.1 = search rules in
    let fits_g : SFits w64 g = search rules in
    let was : c.args.joined.now.items ≡ c.pop.new.self.items ++ (b, l) ∷ [] =
    first_of (search rules, grind (arith, common_steps)) in
    let is : c.push-else-is_apart.new.self.items ≡ c.pop.new.self.items ++ (b, g) ∷ [] =
    first_of (search (rules, to_z-of_z), grind (arith, common_steps, to_z-of_z)) in
    let greatest : g ≡ int_max l pair.1 = simp to_z-of_z at c.max.ensures.value in
    let touches : pair.0 ≤ℤ (l +ℤ pos 1) = omega (arith, ints, c.if-is_apart.ensures.touching refl) in
    let some : pair.0 ≤ℤ pair.1 = omega (arith, ints) in
    joins_touching_is _ c.pop.new.self.items _ b l g pair was is greatest touches some
