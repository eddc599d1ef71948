-- ListPlaces: the table by which the number is found of what has one, and the order in which numbers are given.
use Rattle.std.specs.Prelude.{◌≡◌, ◌≤◌, ℕ, suc, Some}
use Rattle.std.specs.BTreeMap.{BTreeMap, get}
use Rattle.std.specs.List.{slice_get}
use Rattle.std.specs.Ordering.{nat_cmp, ordering_then}
use Rattle.std.specs.declared.cmp.Ordering.{Ordering}
use Rattle.key_numbers.specs.NumberedLists.{Row}

-- the order of three numbers: by the first, then by the second, then by the third
abbrev pub three_cmp : ℕ × ℕ × ℕ → ℕ × ℕ × ℕ → Ordering
three_cmp x y = ordering_then (ordering_then (nat_cmp x.0 y.0) (nat_cmp x.1 y.1)) (nat_cmp x.2 y.2)

-- what it is made of has numbers up to this one
pub record IsMadeOf (most : ℕ) (x : ℕ × ℕ × ℕ) : Type 0 where
  pub one : x.1 ≤ most
  pub other : 2 ≤ x.0 → x.2 ≤ most

-- the table has the number of all that stands, and of nothing else; each is made of what stands before it
pub record ArePlaces (row : Row) (places : BTreeMap (ℕ × ℕ × ℕ) ℕ) : Type 0 where
  pub told : (x : ℕ × ℕ × ℕ) (n : ℕ) → get three_cmp places x ≡ Some n →
      (k : ℕ) × (n ≡ suc k) × (slice_get row k ≡ Some x)
  pub kept : (k : ℕ) (x : ℕ × ℕ × ℕ) → slice_get row k ≡ Some x → get three_cmp places x ≡ Some (suc k)
  pub rising : (k : ℕ) (x : ℕ × ℕ × ℕ) → slice_get row k ≡ Some x → IsMadeOf k x
