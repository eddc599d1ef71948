-- NumberedLists: lists of numbers by numbers of their own. What has the numbers from 1 on stands in a row; a list but
-- the empty one is 0, the number of the list before its last number, and this last number.
use Rattle.std.specs.Prelude.{◌≡◌, ◌++◌, ◌∷◌, [], ℕ, suc, List, Some}
use Rattle.std.specs.List.{slice_get}

abbrev pub Row : Type 0
Row = List (ℕ × ℕ × ℕ)

-- the list with this number
pub data IsList (row : Row) : ℕ → List ℕ → Type 0 where
  empty : IsList row 0 []
  longer : {k before last : ℕ} {xs : List ℕ} → slice_get row k ≡ Some (0, before, last) → IsList row before xs →
      IsList row (suc k) (xs ++ last ∷ [])

-- nothing has two numbers
abbrev pub AreOnce : Row → Type 0
AreOnce row = (j k : ℕ) (x : ℕ × ℕ × ℕ) → slice_get row j ≡ Some x → slice_get row k ≡ Some x → j ≡ k

-- what has a number keeps it
abbrev pub Grows : Row → Row → Type 0
Grows before after = (k : ℕ) (x : ℕ × ℕ × ℕ) → slice_get before k ≡ Some x → slice_get after k ≡ Some x
