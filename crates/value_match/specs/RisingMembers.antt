-- Members in rising order of their numbers, and what is known of a value among them.
use Rattle.std.specs.Prelude.{◌≡◌, ◌≤◌, ℕ, List, [], ◌∷◌, false, drop, take, length}
use Rattle.term_values.specs.Rearranged.{IsRising, may_precede}
use Rattle.term_values.specs.Syntaxes.{TypeSyntax}
use Rattle.term_values.specs.Typed.{TypedValue, listed}
use Rattle.term_values.specs.ValueContents.{member_encodings}
use Rattle.term_values.specs.Matching.{Have}
use Rattle.value_match.specs.FirstSizes.{front_size}
use Rattle.value_match.specs.declared.sets.Reached.{Reached}
use Rattle.value_match.specs.declared.sets.Reached.TheVariants.{Held, Passed, Untold}

-- the numbers of each member may stand before those of the next one
abbrev pub AreRising : (TypedValue → List ℕ) → List TypedValue → Type 0
AreRising key members = IsRising (member_encodings key (listed members))

-- the numbers of each member stand before these
abbrev pub AllBefore : (TypedValue → List ℕ) → List TypedValue → List ℕ → Type 0
AllBefore key [] numbers = Unit {0}
AllBefore key (x ∷ xs) numbers = (may_precede numbers (key x) ≡ false) × AllBefore key xs numbers

-- the numbers of the first `count` members stand before those of the first value
abbrev pub FrontBefore : (TypedValue → List ℕ) → List TypedValue → ℕ → List TypedValue → Type 0
FrontBefore key members count [] = Unit {0}
FrontBefore key members count (x ∷ xs) = AllBefore key (take count members) (key x)

-- the value is a member; or it is none, and the members in front of a place stand before it
abbrev pub IsReached : (TypedValue → List ℕ) → TypedValue → List TypedValue → Reached → Type 0
IsReached key value members Held = Have (listed members) value
IsReached key value members (Passed at size) =
    (¬ Have (listed members) value) × AllBefore key (take at members) (key value) × (at ≤ length members)
IsReached key value members Untold = Unit {0}

-- the size is that of the member at the place, or 0 where there is none
abbrev pub IsMeasured : TypeSyntax → List TypedValue → Reached → Type 0
IsMeasured syntax members (Passed at size) = size ≡ front_size syntax (drop at members)
IsMeasured syntax members _ = Unit {0}
