-- Sets of identifiers, as the code keeps them: which identifiers they have.
use Rattle.std.specs.Prelude.{◌≡◌, ◌||◌, ℕ, ℤ, List, Bool}
use Rattle.std.specs.BTreeSet.{BTreeSet, contains}
use Rattle.std.specs.Cmp.Lexicographic.{slice_cmp}
use Rattle.std.specs.Ordering.{int_cmp, nat_cmp}
use Rattle.term_model.specs.declared.request.IdRef.{IdRef}
use Rattle.term_model.specs.declared.request.IdRef.TheVariants as ids

-- the set has the identifier
abbrev pub has_id : BTreeSet (List ℕ) → List ℕ → Bool
has_id set id = contains (slice_cmp nat_cmp) set id

-- the second set has the identifiers of the first one, and those that pass
abbrev pub Adds : (List ℕ → Bool) → BTreeSet (List ℕ) → BTreeSet (List ℕ) → Type 0
Adds passes before after = (id : List ℕ) → has_id after id ≡ (has_id before id || passes id)

-- of an identifier as a request has it, with the sets of those in globalForm and of those in localForm
abbrev pub has_ref : BTreeSet (List ℕ) → BTreeSet ℤ → IdRef → Bool
has_ref globals locals (ids.Global id) = has_id globals id
has_ref globals locals (ids.Local number) = contains int_cmp locals number
