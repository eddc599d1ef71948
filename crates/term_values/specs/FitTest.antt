-- A test whether a value has a syntax: X.680, sections 17 to 51. The relation is `Fits` of term_values.
use Rattle.std.specs.Prelude.{ℕ, zero, suc, List, [], ◌∷◌, Bool, true, false, ◌&&◌, Option, is_none}
use Rattle.term_values.specs.Bounded.{allowed_size}
use Rattle.term_values.specs.Fits.{count}
use Rattle.term_values.specs.Rearranged.{may_precede}
use Rattle.term_values.specs.Syntaxes.{Bounds, TypeSyntax, TypeParts}
use Rattle.term_values.specs.Syntaxes.TypeSyntax.{Boolean, Integer, Enumerated, BitString, OctetString, NullType}
use Rattle.term_values.specs.Syntaxes.TypeSyntax.{ObjectIdentifier, TextString, GeneralizedTime, Sequence, SetType}
use Rattle.term_values.specs.Syntaxes.TypeSyntax.{SequenceOf, SetOf, Choice, Tagged, Any, Filter}
use Rattle.term_values.specs.Syntaxes.TypeParts.{NoParts, Part}
use Rattle.term_values.specs.Typed.{TypedValue, TypedSlots, TypedValues}
use Rattle.term_values.specs.Typed.TypedValue.{Parts, Many, Pick}
use Rattle.term_values.specs.Typed.TypedSlots.{NoSlots, Filled, Empty}
use Rattle.term_values.specs.Typed.TypedValues.{Nothing, Then}
use Rattle.term_values.specs.ValueContents.{member_encodings}
use Rattle.term_values.specs.Written.{der}
use Rattle.term_values.specs.declared.syntax.Part.{Part as Component}
use Rattle.term_values.specs.declared.value.Slot.{Slot}
use Rattle.term_values.specs.declared.value.Slot.TheVariants.{Absent, Present}
use Rattle.term_values.specs.KeptTest.{any_fits, filter_fits}
use Rattle.term_values.specs.LeafTests.{truth_fits, whole_fits, named_fits, bits_fit, octets_fit, null_fits}
use Rattle.term_values.specs.LeafTests.{identifier_fits, text_fits, time_fits}

-- each encoding may stand behind the one before it, the first one behind this one
abbrev pub rise_from : List ℕ → List (List ℕ) → Bool
rise_from before [] = true
rise_from before (x ∷ xs) = may_precede before x && rise_from x xs

abbrev pub all_fit : (TypedValue → Bool) → TypedValues → Bool
all_fit fits Nothing = true
all_fit fits (Then x xs) = fits x && all_fit fits xs

abbrev pub list_fits : Bounds → (TypedValue → Bool) → TypedValue → Bool
list_fits sizes fits (Many values) = allowed_size sizes (count values) && all_fit fits values
list_fits sizes fits _ = false

-- members that fit, by the rising order of their encodings
abbrev pub set_fits : (TypedValue → List ℕ) → Bool → TypedValue → Bool
set_fits encoding true (Many values) = rise_from [] (member_encodings encoding values)
set_fits encoding _ _ = false

-- OPTIONAL, and without a DEFAULT
abbrev pub may_be_empty : Bool → Option TypedValue → Bool
may_be_empty optional default = optional && is_none default

abbrev pub parts_value_fits : (TypedSlots → Bool) → TypedValue → Bool
parts_value_fits fit (Parts slots) = fit slots
parts_value_fits fit _ = false

abbrev pub pick_value_fits : (ℕ → TypedValue → Bool) → TypedValue → Bool
pick_value_fits fits (Pick index value) = fits index value
pick_value_fits fits _ = false

abbrev mutual
  pub value_fits : TypeSyntax → TypedValue → Bool
  value_fits Boolean value = truth_fits value
  value_fits (Integer names ranges) value = whole_fits ranges value
  value_fits (Enumerated names) value = named_fits names value
  value_fits (BitString names sizes) value = bits_fit sizes value
  value_fits (OctetString sizes) value = octets_fit sizes value
  value_fits NullType value = null_fits value
  value_fits ObjectIdentifier value = identifier_fits value
  value_fits (TextString charset sizes) value = text_fits charset sizes value
  value_fits GeneralizedTime value = time_fits value
  value_fits (Sequence parts) value = parts_value_fits (parts_fit parts) value
  value_fits (SetType parts) value = parts_value_fits (parts_fit parts) value
  value_fits (SequenceOf member sizes) value = list_fits sizes (value_fits member) value
  value_fits (SetOf member sizes) value = set_fits (der member) (list_fits sizes (value_fits member) value) value
  value_fits (Choice parts) value = pick_value_fits (pick_fits parts) value
  value_fits (Tagged tag explicit of) value = value_fits of value
  value_fits Any value = any_fits value
  value_fits Filter value = filter_fits value

  pub parts_fit : TypeParts → TypedSlots → Bool
  parts_fit NoParts NoSlots = true
  parts_fit NoParts _ = false
  parts_fit (Part name syntax optional default rest) NoSlots = false
  parts_fit (Part name syntax optional default rest) (Filled value slots) =
      value_fits syntax value && parts_fit rest slots
  parts_fit (Part name syntax optional default rest) (Empty slots) =
      may_be_empty optional default && parts_fit rest slots

  pub pick_fits : TypeParts → ℕ → TypedValue → Bool
  pick_fits NoParts index value = false
  pick_fits (Part name syntax optional default rest) zero value = value_fits syntax value
  pick_fits (Part name syntax optional default rest) (suc index) value = pick_fits rest index value

-- one component
abbrev pub slot_fits : Component → Slot → Bool
slot_fits part Absent = may_be_empty part.optional part.default
slot_fits part (Present value) = value_fits part.syntax value
