-- The numbers of one component of the program's.
use Rattle.std.specs.Prelude.{◌≡◌, ℕ, List, [], ◌∷◌, ◌&&◌, ◌==◌, Bool, false, None, if◌then◌else◌}
use Rattle.term_values.specs.Typed.{TypedValue}
use Rattle.term_values.specs.declared.syntax.Part.{Part}
use Rattle.term_values.specs.declared.value.Slot.{Slot}
use Rattle.term_values.specs.declared.value.Slot.TheVariants.{Absent, Present}
use Rattle.value_match.specs.Marks.{mark_as}
use Rattle.value_match.specs.MemberKeys.{is_written, member_key}

abbrev pub value_key : Part → TypedValue → List ℕ
value_key part value =
    if is_written part.default value then mark_as None part.syntax value ∷ member_key part.syntax value else []

abbrev pub slot_key : Part → Slot → List ℕ
slot_key part Absent = []
slot_key part (Present value) = value_key part value

-- the list begins with the number
abbrev pub BeginsWith : ℕ → List ℕ → Type 0
BeginsWith n numbers = (rest : List ℕ) × (numbers ≡ n ∷ rest)

-- the component is written, and its tag has these octets
abbrev pub has_mark : Part → Slot → ℕ → Bool
has_mark part Absent mark = false
has_mark part (Present value) mark = is_written part.default value && (mark_as None part.syntax value == mark)

-- what a component of a SET has at the octets of its tag
abbrev pub marked_key : Part → Slot → List ℕ
marked_key part Absent = 1 ∷ []
marked_key part (Present value) = 0 ∷ member_key part.syntax value
