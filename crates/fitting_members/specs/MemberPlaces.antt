-- The place of an encoding among members that stand by the rising order of their encodings: X.690, section 11.6.
use Rattle.std.specs.Prelude.{◌≡◌, ℕ, zero, suc, ◌≤◌, false, if◌then◌else◌, List, drop, length, map, slice_get, take, true}
use Rattle.std.specs.Prelude.{Bool}
use Rattle.std.specs.List.{AllByRecursion}
use Rattle.std.specs.Option.{option_map_or}
use Rattle.term_values.specs.Rearranged.{IsRising, may_precede}
use Rattle.term_values.specs.SameValue.{same_octets}
use Rattle.term_values.specs.Decoding.{inserted_by}
use Rattle.term_values.specs.SetMembers.{is_among}
use Rattle.term_values.specs.Typed.{TypedValue, TypedValues}
use Rattle.term_values.specs.ValueContents.{member_encodings}

-- the members stand by the rising order of their encodings
abbrev pub AreRising : (TypedValue → List ℕ) → List TypedValue → Type 0
AreRising encoding items = IsRising (map encoding items)

-- the encodings of the members in front of a place are less than this one, and of none behind it
pub record IsPlace (encoding : TypedValue → List ℕ) (x : List ℕ) (items : List TypedValue) (at : ℕ) : Type 0 where
  pub within : at ≤ length items
  pub front : AllByRecursion (λ value. may_precede x (encoding value) ≡ false) (take at items)
  pub behind : AllByRecursion (λ value. may_precede x (encoding value) ≡ true) (drop at items)

-- there is a member at a place, and has this encoding
abbrev pub has_at : (TypedValue → List ℕ) → List ℕ → List TypedValue → ℕ → Bool
has_at encoding x items at = option_map_or (λ value. same_octets x (encoding value)) (slice_get items at) false

-- members with one more, unless one has its encoding
abbrev pub with_one : (TypedValue → List ℕ) → TypedValue → TypedValues → TypedValues
with_one encoding value held =
    if is_among (encoding value) (member_encodings encoding held) then held else inserted_by encoding value held

-- the encoding may stand behind that of the member in front of a place, where there is one
abbrev pub may_follow : (TypedValue → List ℕ) → List ℕ → List TypedValue → ℕ → Bool
may_follow encoding x items zero = true
may_follow encoding x items (suc at) =
    option_map_or (λ value. may_precede (encoding value) x) (slice_get items at) true

-- the encoding may stand in front of that of the member at a place, where there is one
abbrev pub may_lead : (TypedValue → List ℕ) → List ℕ → List TypedValue → ℕ → Bool
may_lead encoding x items at = option_map_or (λ value. may_precede x (encoding value)) (slice_get items at) true
