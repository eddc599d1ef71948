-- What is found of the octets of tags among the components of a SET: X.690, section 10.3.
use Rattle.std.specs.Prelude.{◌≡◌, ◌≢◌, ◌⊎◌, ◌≤◌, ◌<◌, ℕ, List, [], ◌∷◌, false, Option, None, Some, length}
use Rattle.std.specs.Prelude.{slice_index_or, IfSome, MatchOption}
use Rattle.term_values.specs.PartsView.{parts_listed}
use Rattle.term_values.specs.SlotsView.{slots_listed}
use Rattle.term_values.specs.declared.syntax.Part.{Part}
use Rattle.term_values.specs.declared.value.Slot.{Slot}
use Rattle.value_match.specs.MemberKeys.{component_key}
use Rattle.value_match.specs.SlotKeys.{BeginsWith, has_mark, marked_key}

-- less than what was found, or nothing was
abbrev pub IsBelow : Option ℕ → ℕ → Type 0
IsBelow None mark = Unit {0}
IsBelow (Some found) mark = mark < found

-- not what was found
abbrev pub IsOther : Option ℕ → ℕ → Type 0
IsOther None mark = Unit {0}
IsOther (Some found) mark = mark ≢ found

-- the component has no octets but these
abbrev pub IsMarkOf : Part → Slot → Option ℕ → Type 0
IsMarkOf part slot found = (mark : ℕ) → IsOther found mark → has_mark part slot mark ≡ false

abbrev pub key_at : List Part → List Slot → ℕ → List ℕ
key_at parts slots mark = component_key (parts_listed parts) (slots_listed slots) mark

-- no component has these octets
abbrev pub IsUnmarked : List Part → List Slot → ℕ → Type 0
IsUnmarked parts slots mark = key_at parts slots mark ≡ 1 ∷ []

-- no component has octets from `from` on that are less than those found
abbrev pub IsLeastMark : List Part → List Slot → ℕ → Option ℕ → Type 0
IsLeastMark parts slots from found = (mark : ℕ) → from ≤ mark → IsBelow found mark → IsUnmarked parts slots mark

-- what was found isn't before `from`, and a component has it
abbrev pub IsMarkFrom : List Part → List Slot → ℕ → Option ℕ → Type 0
IsMarkFrom parts slots from found = IfSome found (λ mark. (from ≤ mark) × BeginsWith 0 (key_at parts slots mark))

-- the same, where a component of either value has it
abbrev pub IsMarkOfEither : List Part → List Slot → List Slot → ℕ → Option ℕ → Type 0
IsMarkOfEither parts slots others from found =
    IfSome found (λ mark. (from ≤ mark)
    × (BeginsWith 0 (key_at parts slots mark) ⊎ BeginsWith 0 (key_at parts others mark)))

-- the place of the component that has these octets, or none
abbrev pub IsPlaceOfMark : List Part → List Slot → ℕ → Option ℕ → Type 0
IsPlaceOfMark parts slots mark found =
    MatchOption found (IsUnmarked parts slots mark)
    (λ at. (at < length parts) × (at < length slots) × BeginsWith 0 (key_at parts slots mark)
    × ((part : Part) (slot : Slot) → slice_index_or parts at part ≡ part → slice_index_or slots at slot ≡ slot
    → key_at parts slots mark ≡ marked_key part slot))
