-- RangeSets: sets of whole numbers as pairs of a least and a greatest number, and what ranges leave of them (X.680,
-- sections 49 to 51; docs/PROFILE.md, section 11).
use Rattle.std.specs.Prelude.{◌≡◌, ◌⊎◌, ◌≤ℤ◌, ◌<ℤ◌, ◌+ℤ◌, ℤ, pos, List, [], ◌∷◌, ◌&&◌}
use Rattle.term_values.specs.Bounded.{allowed, one_allows}
use Rattle.term_values.specs.Syntaxes.{Bounds}

-- pairs that rise, each of which holds a number, with a number between each and the next that none holds
pub data IsRising : Bounds → Type 0 where
  last : {pair : ℤ × ℤ} → pair.0 ≤ℤ pair.1 → IsRising (pair ∷ [])
  more : {pair next : ℤ × ℤ} {rest : Bounds} → pair.0 ≤ℤ pair.1 → (pair.1 +ℤ pos 1) <ℤ next.0 →
      IsRising (next ∷ rest) → IsRising (pair ∷ next ∷ rest)

-- rising pairs, or none
abbrev pub AreRising : Bounds → Type 0
AreRising pairs = IsRising pairs ⊎ (pairs ≡ [])

-- the one form of bounds that are stated: rising pairs, or where no number is left a pair that holds none
abbrev pub IsStated : Bounds → Type 0
IsStated bounds = IsRising bounds ⊎ (bounds ≡ (pos 1, pos 0) ∷ [])

-- the bounds that are left of others by ranges
pub record Leaves (before : Bounds) (ranges : List (ℤ × ℤ)) (after : Bounds) : Type 0 where
  pub stated : IsStated after
  pub same : (n : ℤ) → allowed after n ≡ (allowed before n && one_allows ranges n)
