-- Where a piece ends that stands as near to the front as it can.
use Rattle.std.specs.Prelude.{◌≡◌, ◌≤◌, ℕ, List, Option, length, MatchOption}
use Rattle.term_values.specs.Typed.{TypedValue}
use Rattle.term_values.specs.Typed.TypedValue.{Pick}
use Rattle.term_values.specs.MatchingPieces.{Ends}

-- the first end of a piece from `from` on, or none where it stands nowhere
abbrev pub IsFirstEnd : ℕ → List ℕ → List ℕ → ℕ → Option ℕ → Type 0
IsFirstEnd kind octets text from found =
    MatchOption found ((end : ℕ) → ¬ Ends kind octets text from end)
    (λ end. Ends kind octets text from end × ((other : ℕ) → Ends kind octets text from other → end ≤ other)
    × (end ≤ length text))

-- the value is a piece of the form, and ends there
abbrev pub EndsAs : (List ℕ → TypedValue) → TypedValue → List ℕ → ℕ → ℕ → Type 0
EndsAs form value text from end =
    (kind : ℕ) × (octets : List ℕ) × (value ≡ Pick kind (form octets)) × Ends kind octets text from end

-- the same of a value that is to be a piece of the form
abbrev pub IsFirstEndOf : (List ℕ → TypedValue) → TypedValue → List ℕ → ℕ → Option ℕ → Type 0
IsFirstEndOf form value text from found =
    MatchOption found ((end : ℕ) → ¬ EndsAs form value text from end)
    (λ end. EndsAs form value text from end × ((other : ℕ) → EndsAs form value text from other → end ≤ other)
    × (end ≤ length text))
