-- What is left of trees and components while they are read.
use Rattle.std.specs.Prelude.{ℕ, List, [], ◌∷◌, Bool, true, false, Option, None, Some, option_map}
use Rattle.term_values.specs.Beginnings.{begins}
use Rattle.term_values.specs.Decoding.{denoted, taken_out}
use Rattle.term_values.specs.Syntaxes.{TypeSyntax}
use Rattle.term_values.specs.Tree.{TreeValue, TreeValues}
use Rattle.term_values.specs.Tree.TreeValues.{Nothing as NoTrees, Then as AndTrees}
use Rattle.term_values.specs.TreeTags.{tag_of}
use Rattle.term_values.specs.Typed.{TypedValue, TypedValues, TypedSlots}
use Rattle.term_values.specs.Typed.TypedSlots.{Filled, Empty}
use Rattle.term_values.specs.Typed.TypedValues.{Then}
use Rattle.term_values.specs.declared.syntax.Part.{Part}
use Rattle.term_values.specs.declared.value.Slot.{Slot}
use Rattle.term_values.specs.declared.value.Slot.TheVariants.{Absent, Present}

-- what a component that is left out holds
abbrev pub slot_left_out : Bool → Option TypedValue → Option Slot
slot_left_out optional (Some default) = Some (Present default)
slot_left_out true None = Some Absent
slot_left_out false None = None

-- the next tree, if there is one, may begin the component
abbrev pub next_begins : TypeSyntax → TreeValues → Bool
next_begins syntax NoTrees = false
next_begins syntax (AndTrees x xs) = begins syntax (tag_of x)

-- values that stand before others
abbrev pub values_before : List TypedValue → TypedValues → TypedValues
values_before [] rest = rest
values_before (x ∷ xs) rest = Then x (values_before xs rest)

abbrev pub slot_before : Slot → TypedSlots → TypedSlots
slot_before Absent rest = Empty rest
slot_before (Present x) rest = Filled x rest

-- components that stand before others
abbrev pub slots_before : List Slot → TypedSlots → TypedSlots
slots_before [] rest = rest
slots_before (x ∷ xs) rest = slot_before x (slots_before xs rest)

-- the trees that are not marked as taken
abbrev pub left_of : List Bool → List TreeValue → TreeValues
left_of [] xs = NoTrees
left_of (b ∷ bs) [] = NoTrees
left_of (true ∷ bs) (x ∷ xs) = left_of bs xs
left_of (false ∷ bs) (x ∷ xs) = AndTrees x (left_of bs xs)

-- what a component holds by the first tree that may begin it, and the others
abbrev pub slot_by : Option (TreeValue × TreeValues) → (TreeValue → Option TypedValue) → Option (Slot × TreeValues)
    → Option (Slot × TreeValues)
slot_by (Some taken) read absent = option_map (λ v. (Present v, taken.1)) (read taken.0)
slot_by None read absent = absent

abbrev pub next_slot : Part → TreeValues → Option (Slot × TreeValues)
next_slot part trees =
    slot_by (taken_out (begins part.syntax) trees) (denoted false part.syntax)
    (option_map (λ slot. (slot, trees)) (slot_left_out part.optional part.default))
