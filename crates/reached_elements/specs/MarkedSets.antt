-- MarkedSets: a mark for each element of a graph, told by the set of those whose mark is set.
use Rattle.std.specs.Prelude.{ℕ, suc, zero, List, [], ◌∷◌, Bool}
use Rattle.std.specs.BTreeSet.{BTreeSet, contains}
use Rattle.std.specs.Ordering.{nat_cmp}

-- the marks of so many elements, from one of them on
abbrev pub marks_from : BTreeSet ℕ → ℕ → ℕ → List Bool
marks_from set first zero = []
marks_from set first (suc n) = contains nat_cmp set first ∷ marks_from set (suc first) n

abbrev pub marks_of : BTreeSet ℕ → ℕ → List Bool
marks_of set count = marks_from set 0 count
