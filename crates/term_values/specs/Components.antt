-- What is written of one component: X.690, section 11.5.
use Rattle.std.specs.Prelude.{ℕ, List, [], ◌∷◌, Bool, false, Option, None, Some, if◌then◌else◌}
use Rattle.term_values.specs.SameValue.{same_value}
use Rattle.term_values.specs.Typed.{TypedValue}
use Rattle.term_values.specs.declared.value.Slot.{Slot}
use Rattle.term_values.specs.declared.value.Slot.TheVariants.{Absent, Present}

-- the value equals the default
abbrev pub is_default : Option TypedValue → TypedValue → Bool
is_default None value = false
is_default (Some default) value = same_value value default

-- the encodings of a component: one where it is written, else none
abbrev pub slot_encodings : Option TypedValue → (TypedValue → List ℕ) → Slot → List (List ℕ)
slot_encodings default encoding Absent = []
slot_encodings default encoding (Present value) = if is_default default value then [] else encoding value ∷ []

-- the octets of a component, none where it is not written
abbrev pub slot_octets : Option TypedValue → (TypedValue → List ℕ) → Slot → List ℕ
slot_octets default encoding Absent = []
slot_octets default encoding (Present value) = if is_default default value then [] else encoding value
