-- Steps: what is left of components and of texts while they are gone through.
use Rattle.std.specs.Prelude.{ℕ, List, [], ◌∷◌, Bool, true, false, Option, None, Some, option_map}
use Rattle.ber_values.specs.Left.{slot_left_out}
use Rattle.term_values.specs.Syntaxes.{TypeSyntax}
use Rattle.term_values.specs.Typed.{TypedValue}
use Rattle.term_values.specs.declared.syntax.Part.{Part}
use Rattle.term_values.specs.declared.value.Slot.{Slot}
use Rattle.term_values.specs.declared.value.Slot.TheVariants.{Absent, Present}
use Rattle.asn1_values_syntax.specs.declared.value.ValuePart.{ValuePart}
use Rattle.asn1_values.specs.Denoted.{Reading, denoted, taken_out}
use Rattle.asn1_leaf_values.specs.Literals.{same_name}
use Rattle.asn1_leaf_values.specs.TextValues.{TextValue, TextParts, said_name, said_value}
use Rattle.asn1_leaf_values.specs.TextValues.TextParts.{NoTexts, AndText}

-- the next text has the name
abbrev pub next_comes : List ℕ → TextParts → Bool
next_comes name NoTexts = false
next_comes name (AndText own text others) = same_name name own

-- the texts that are not marked as taken
abbrev pub left_of : List Bool → List ValuePart → TextParts
left_of [] xs = NoTexts
left_of (b ∷ bs) [] = NoTexts
left_of (true ∷ bs) (x ∷ xs) = left_of bs xs
left_of (false ∷ bs) (x ∷ xs) = AndText (said_name x) (said_value x) (left_of bs xs)

abbrev pub no_texts : TextParts → Bool
no_texts NoTexts = true
no_texts (AndText name text others) = false

-- what a component holds by the text that was taken for it, and the others
abbrev pub slot_by : Option (TextValue × TextParts) → (TextValue → Option TypedValue) → Option (Slot × TextParts)
    → Option (Slot × TextParts)
slot_by (Some taken) read absent = option_map (λ v. (Present v, taken.1)) (read taken.0)
slot_by None read absent = absent

abbrev pub next_slot : Reading → Part → TextParts → Option (Slot × TextParts)
next_slot reading part texts =
    slot_by (taken_out part.name texts) (denoted reading part.syntax)
    (option_map (λ slot. (slot, texts)) (slot_left_out part.optional part.default))
