-- Registrations: places at which arcs are registered, each list of arcs by its number: which stands first, and which
-- stand behind one of the same arcs (X.722, section 8.2; docs/PROFILE.md, section 12).
use Rattle.std.specs.Prelude.{◌≡◌, ◌==◌, ◌&&◌, ◌||◌, ℕ, Bool, List, true, false, Option, None, Some, nat_lt, slice_get}
use Rattle.std.specs.Prelude.{if◌then◌else◌}
use Rattle.gdmo_names.specs.FaultSets.{FaultSet, OneFault}
use Rattle.gdmo_names.specs.FirstLabelFault.LabelFault.{IdentifierDouble}
use Rattle.gdmo_names.specs.SectionFaults.{NoFault}
use Rattle.gdmo_identifiers.specs.declared.registrations.Registration.{Registration}

-- a place, as the code has it
abbrev pub Registered : Type 0
Registered = Registration

-- by the number of the document, and then by the place of the brace
abbrev pub is_earlier : Registration → Registration → Bool
is_earlier one other = nat_lt one.document other.document
    || one.document == other.document && nat_lt one.brace.now.at other.brace.now.at

abbrev pub first_kept : Option Registration → Registration → Registration
first_kept None own = own
first_kept (Some first) own = if is_earlier own first then own else first

abbrev pub comes_behind : Option Registration → Registration → Bool
comes_behind None own = false
comes_behind (Some first) own = is_earlier first own

-- one of a list
abbrev pub IsOne : List (Option Registration) → Registration → Type 0
IsOne registered x = (k : ℕ) × (slice_get registered k ≡ Some (Some x))

-- of each list of arcs one of the places at which it is registered, before which none stands
pub record TellsFirst (registered : List (Option Registration)) (told : ℕ → Option Registration) : Type 0 where
  pub there : (n : ℕ) (x : Registration) → told n ≡ Some x → (x.list ≡ n) × IsOne registered x
  pub least : (k : ℕ) (y : Registration) → slice_get registered k ≡ Some (Some y) →
      (x : Registration) × (told y.list ≡ Some x) × (is_earlier y x ≡ false)

-- the same arcs are registered earlier
pub record IsLater (registered : List (Option Registration)) (own : Registration) : Type 0 where
  pub k : ℕ
  pub first : Registration
  pub stands : slice_get registered k ≡ Some (Some first)
  pub same : first.list ≡ own.list
  pub before : is_earlier first own ≡ true

abbrev pub LaterOf : List (Option Registration) → Option Registration → FaultSet
LaterOf registered None = NoFault
LaterOf registered (Some own) = OneFault (IsLater registered own) IdentifierDouble own.document own.brace.now.at

-- the same by a table of first places
abbrev pub BehindBy : (ℕ → Option Registration) → Option Registration → FaultSet
BehindBy told None = NoFault
BehindBy told (Some own) =
    OneFault (comes_behind (told own.list) own ≡ true) IdentifierDouble own.document own.brace.now.at
