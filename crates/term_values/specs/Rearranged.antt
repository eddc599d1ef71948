-- Lists in another order, and the rising order of encodings: X.690, section 11.6. No encoding begins another, so the
-- order is that of the first octet that differs.
use Rattle.std.specs.Prelude.{◌≡◌, ◌⊎◌, ℕ, List, [], ◌∷◌, ◌++◌, Bool, true, not, if◌then◌else◌}
use Rattle.std.specs.Cmp.Lexicographic.{slice_cmp}
use Rattle.std.specs.Ordering.{is_gt, nat_cmp}

-- the element stands somewhere in the list, and the others are these in their order
abbrev pub IsAmong : {A : Type 0} → A → List A → List A → Type 0
IsAmong x others [] = ⊥
IsAmong x others (y ∷ ys) = ((y ≡ x) × (ys ≡ others)) ⊎ ((rest : List _) × (others ≡ y ∷ rest) × IsAmong x rest ys)

-- the second list has the elements of the first one in some order
abbrev pub IsRearrangement : {A : Type 0} → List A → List A → Type 0
IsRearrangement [] ys = ys ≡ []
IsRearrangement (x ∷ xs) ys = (others : List _) × IsAmong x others ys × IsRearrangement xs others

-- the first encoding may stand before the second
abbrev pub may_precede : List ℕ → List ℕ → Bool
may_precede a b = not (is_gt (slice_cmp nat_cmp a b))

-- each encoding may stand before the next one
abbrev pub IsRising : List (List ℕ) → Type 0
IsRising [] = Unit {0}
IsRising (x ∷ []) = Unit {0}
IsRising (x ∷ (y ∷ ys)) = (may_precede x y ≡ true) × IsRising (y ∷ ys)

abbrev pub inserted : List ℕ → List (List ℕ) → List (List ℕ)
inserted x [] = x ∷ []
inserted x (y ∷ ys) = if may_precede x y then x ∷ y ∷ ys else y ∷ inserted x ys

-- the same encodings in rising order
abbrev pub rising : List (List ℕ) → List (List ℕ)
rising [] = []
rising (x ∷ xs) = inserted x (rising xs)

-- encodings one after the other
abbrev pub joined : List (List ℕ) → List ℕ
joined [] = []
joined (x ∷ xs) = x ++ joined xs
