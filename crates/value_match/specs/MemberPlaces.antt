-- Where a value stands among members.
use Rattle.std.specs.Prelude.{◌<◌, ℕ, List, Option, length, MatchOption}
use Rattle.term_values.specs.Typed.{TypedValue, listed}
use Rattle.term_values.specs.Matching.{Have}

-- some place at which the value stands, or none where it isn't among the members
abbrev pub IsPlaceOf : TypedValue → List TypedValue → Option ℕ → Type 0
IsPlaceOf value members found =
    MatchOption found (¬ Have (listed members) value) (λ at. (at < length members) × Have (listed members) value)
