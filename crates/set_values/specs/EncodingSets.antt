-- Sets of the encodings of members, which tell members apart: X.690, section 11.
use Rattle.std.specs.BTreeSet.{BTreeSet, contains}
use Rattle.std.specs.Cmp.Lexicographic.{slice_cmp}
use Rattle.std.specs.Ordering.{nat_cmp}
use Rattle.std.specs.Prelude.{◌≡◌, ℕ, List, [], ◌∷◌, ◌++◌, Bool, ◌||◌, if◌then◌else◌}
use Rattle.term_values.specs.SameValue.{same_octets}
use Rattle.term_values.specs.Typed.{TypedValue}
use Rattle.term_values.specs.SetMembers.{is_among}

-- the encoding is in the set
abbrev pub holds : BTreeSet (List ℕ) → List ℕ → Bool
holds set x = contains (slice_cmp nat_cmp) set x

-- the set has the encodings of the list
abbrev pub HasExactly : BTreeSet (List ℕ) → List (List ℕ) → Type 0
HasExactly set list = (q : List ℕ) → holds set q ≡ is_among q list

-- the set has one encoding more, or had it
abbrev pub Grows : BTreeSet (List ℕ) → BTreeSet (List ℕ) → List ℕ → Type 0
Grows before after x = (q : List ℕ) → holds after q ≡ (same_octets q x || holds before q)

-- one member more, unless its encoding is among the others
abbrev pub pushed_unless : Bool → List TypedValue → TypedValue → List TypedValue
pushed_unless there items value = if there then items else items ++ value ∷ []
