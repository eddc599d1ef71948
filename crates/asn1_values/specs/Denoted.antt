-- Denoted: which value of a type a text denotes (X.680, sections 18 to 46; X.208, sections 20 to 28).
use Rattle.std.specs.Prelude.{ℕ, zero, ◌+◌, List, [], ◌∷◌, true, false, Option, None, Some, option_map, option_and_then}
use Rattle.std.specs.Prelude.{if◌then◌else◌}
use Rattle.term_values.specs.Decoding.{left_out, rising_by, sized_members}
use Rattle.term_values.specs.Syntaxes.{TypeSyntax, TypeParts}
use Rattle.term_values.specs.Syntaxes.TypeSyntax.{Boolean, Integer, Enumerated, BitString, OctetString, NullType}
use Rattle.term_values.specs.Syntaxes.TypeSyntax.{ObjectIdentifier, TextString, GeneralizedTime, Sequence, SetType}
use Rattle.term_values.specs.Syntaxes.TypeSyntax.{SequenceOf, SetOf, Choice, Tagged, Any, Filter}
use Rattle.term_values.specs.Syntaxes.TypeParts.{NoParts, Part}
use Rattle.term_values.specs.Typed.{TypedValue, TypedSlots, TypedValues}
use Rattle.term_values.specs.Typed.TypedValue.{Parts, Many, Pick}
use Rattle.term_values.specs.Typed.TypedSlots.{NoSlots, Filled}
use Rattle.term_values.specs.Typed.TypedValues.{Nothing, Then}
use Rattle.term_values.specs.Written.{der}
use Rattle.asn1_leaf_values.specs.Arcs.{NamedArcs}
use Rattle.asn1_leaf_values.specs.LeafTexts.{truth_said, whole_said, enumerated_said, bit_string_said}
use Rattle.asn1_leaf_values.specs.LeafTexts.{octet_string_said, null_said, identifier_said, text_said}
use Rattle.asn1_leaf_values.specs.LeafTexts.{time_said, any_said}
use Rattle.asn1_leaf_values.specs.Literals.{same_name}
use Rattle.asn1_leaf_values.specs.TextValues.{TextValue, TextParts, parts_of}
use Rattle.asn1_leaf_values.specs.TextValues.TextValue.{Chosen}
use Rattle.asn1_leaf_values.specs.TextValues.TextParts.{NoTexts, AndText}

-- the members that texts without names denote, as they come
abbrev pub members_said : (TextValue → Option TypedValue) → TextParts → Option TypedValues
members_said member NoTexts = Some Nothing
members_said member (AndText [] text others) =
    option_and_then (λ v. option_map (Then v) (members_said member others)) (member text)
members_said member (AndText (first ∷ more) text others) = None

-- the first text of that name, and the others
abbrev pub taken_out : List ℕ → TextParts → Option (TextValue × TextParts)
taken_out name NoTexts = None
taken_out name (AndText own text others) =
    if same_name name own then Some (text, others)
    else option_map (λ (rest : TextValue × TextParts). (rest.0, AndText own text rest.1)) (taken_out name others)

abbrev pub where_taken : Option (TextValue × TextParts) → (TextValue → TextParts → Option TypedSlots)
    → Option TypedSlots → Option TypedSlots
where_taken (Some taken) found absent = found taken.0 taken.1
where_taken None found absent = absent

-- the value behind a chosen name
abbrev pub chosen_by : (List ℕ → TextValue → Option TypedValue) → TextValue → Option TypedValue
chosen_by pick (Chosen name text) = pick name text
chosen_by pick _ = None

-- what tells which CMISFilter a text denotes, and for which arcs the names stand with which identifiers begin
pub record Reading : Type 0 where
  pub filter : TextValue → Option TypedValue
  pub names : NamedArcs

abbrev pub reading_of : (NamedArcs → TextValue → Option TypedValue) → NamedArcs → Reading
reading_of filter names = record { filter = filter names; names = names }

abbrev mutual
  -- the value of the syntax that the text denotes
  pub denoted : Reading → TypeSyntax → TextValue → Option TypedValue
  denoted reading Boolean text = truth_said text
  denoted reading (Integer names ranges) text = whole_said names ranges text
  denoted reading (Enumerated names) text = enumerated_said names text
  denoted reading (BitString names sizes) text = bit_string_said names sizes text
  denoted reading (OctetString sizes) text = octet_string_said sizes text
  denoted reading NullType text = null_said text
  denoted reading ObjectIdentifier text = identifier_said reading.names text
  denoted reading (TextString charset sizes) text = text_said charset sizes text
  denoted reading GeneralizedTime text = time_said text
  denoted reading (Sequence parts) text =
      option_map Parts (option_and_then (components_said reading parts) (parts_of text))
  denoted reading (SetType parts) text =
      option_map Parts (option_and_then (unordered_said reading parts) (parts_of text))
  denoted reading (SequenceOf member sizes) text =
      option_and_then (sized_members sizes) (option_and_then (members_said (denoted reading member)) (parts_of text))
  denoted reading (SetOf member sizes) text = option_and_then (sized_members sizes)
      (option_map (rising_by (der member)) (option_and_then (members_said (denoted reading member)) (parts_of text)))
  denoted reading (Choice parts) text = chosen_by (picked_said reading zero parts) text
  denoted reading (Tagged tag explicit of) text = denoted reading of text
  denoted reading Any text = any_said text
  denoted reading Filter text = reading.filter text

  -- the first alternative of that name; so many stand before these
  pub picked_said : Reading → ℕ → TypeParts → List ℕ → TextValue → Option TypedValue
  picked_said reading k NoParts name text = None
  picked_said reading k (Part own syntax optional default rest) name text =
      if same_name own name then option_map (Pick k) (denoted reading syntax text)
      else picked_said reading (k + 1) rest name text

  -- the components that texts in the order of the type denote: each takes the next text where that has its name
  pub components_said : Reading → TypeParts → TextParts → Option TypedSlots
  components_said reading NoParts NoTexts = Some NoSlots
  components_said reading NoParts (AndText own text others) = None
  components_said reading (Part name syntax optional default rest) NoTexts =
      left_out optional default (components_said reading rest NoTexts)
  components_said reading (Part name syntax optional default rest) (AndText own text others) =
      if same_name name own
      then option_and_then (λ v. option_map (Filled v) (components_said reading rest others))
      (denoted reading syntax text)
      else left_out optional default (components_said reading rest (AndText own text others))

  -- the components that texts in any order denote: each takes the first text of its name that is left
  pub unordered_said : Reading → TypeParts → TextParts → Option TypedSlots
  unordered_said reading NoParts NoTexts = Some NoSlots
  unordered_said reading NoParts (AndText own text others) = None
  unordered_said reading (Part name syntax optional default rest) texts =
      where_taken (taken_out name texts)
      (λ text others. option_and_then (λ v. option_map (Filled v) (unordered_said reading rest others))
      (denoted reading syntax text))
      (left_out optional default (unordered_said reading rest texts))
