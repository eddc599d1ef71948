-- Examples of docs/PROFILE.md, section 11, computed: what ranges leave of others.
use Rattle.std.proofs.Common.{◌≡◌, zero, suc, ℤ, pos, negsuc, [], ◌∷◌, ◌&&◌, refl, inl, inr, arith}
use Rattle.term_values.specs.Bounded.{allowed, one_allows}
use Rattle.range_sets.specs.RangeSets.{Leaves}
use Rattle.range_sets.specs.RangeSets.IsRising.{last}

-- 0 to 2 and 1 to 5 leave 1 to 2
range_rest : (n : ℤ) → allowed ((pos 1, pos 2) ∷ []) n ≡ (allowed ((pos 0, pos 2) ∷ []) n && one_allows
    ((pos 1, pos 5) ∷ []) n)
range_rest (negsuc k) = refl
range_rest (pos zero) = refl
range_rest (pos (suc zero)) = refl
range_rest (pos (suc (suc zero))) = refl
range_rest (pos (suc (suc (suc k)))) = grind arith

leaves_example : Leaves ((pos 0, pos 2) ∷ []) ((pos 1, pos 5) ∷ []) ((pos 1, pos 2) ∷ [])
leaves_example = record { stated = inl (last (omega arith)); same = range_rest }

-- 0 to 1 and 3 leave nothing, which is stated by a pair that holds none
nothing_rest : (n : ℤ) → allowed ((pos 1, pos 0) ∷ []) n ≡ (allowed ((pos 0, pos 1) ∷ []) n && one_allows
    ((pos 3, pos 3) ∷ []) n)
nothing_rest (negsuc k) = refl
nothing_rest (pos zero) = refl
nothing_rest (pos (suc zero)) = refl
nothing_rest (pos (suc (suc zero))) = refl
nothing_rest (pos (suc (suc (suc k)))) = grind arith

empty_example : Leaves ((pos 0, pos 1) ∷ []) ((pos 3, pos 3) ∷ []) ((pos 1, pos 0) ∷ [])
empty_example = record { stated = inr refl; same = nothing_rest }

-- where nothing is stated, 2 and 1 are one pair
joined_rest : (n : ℤ) → allowed ((pos 1, pos 2) ∷ []) n ≡ (allowed [] n && one_allows
    ((pos 2, pos 2) ∷ (pos 1, pos 1) ∷ []) n)
joined_rest (negsuc k) = refl
joined_rest (pos zero) = refl
joined_rest (pos (suc zero)) = refl
joined_rest (pos (suc (suc zero))) = refl
joined_rest (pos (suc (suc (suc k)))) = grind arith

joined_example : Leaves [] ((pos 2, pos 2) ∷ (pos 1, pos 1) ∷ []) ((pos 1, pos 2) ∷ [])
joined_example = record { stated = inl (last (omega arith)); same = joined_rest }
