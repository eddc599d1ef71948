-- The one form in which a value of a syntax is written: X.690, sections 8, 10 and 11. Shortest definite lengths,
-- primitive strings, TRUE as FF, a SET by rising encodings of its components, the members of a SET OF in the order of
-- the value, which is the rising one where the value fits, and no component that equals its DEFAULT.
use Rattle.std.specs.Prelude.{ℕ, zero, suc, List, [], ◌∷◌, true, false, Option, None, Some, if◌then◌else◌}
use Rattle.term_values.specs.Der.{encoded}
use Rattle.term_values.specs.Rearranged.{joined, rising}
use Rattle.term_values.specs.SameValue.{same_value}
use Rattle.term_values.specs.Syntaxes.{TypeSyntax, TypeParts}
use Rattle.term_values.specs.Syntaxes.TypeSyntax.{Boolean, Integer, Enumerated, BitString, OctetString, NullType}
use Rattle.term_values.specs.Syntaxes.TypeSyntax.{ObjectIdentifier, TextString, GeneralizedTime, Sequence, SetType}
use Rattle.term_values.specs.Syntaxes.TypeSyntax.{SequenceOf, SetOf, Choice, Tagged, Any, Filter}
use Rattle.term_values.specs.Syntaxes.TypeParts.{NoParts, Part}
use Rattle.term_values.specs.TreeTags.{due}
use Rattle.term_values.specs.Typed.{TypedValue, TypedSlots}
use Rattle.term_values.specs.Typed.TypedSlots.{NoSlots, Filled, Empty}
use Rattle.term_values.specs.UniversalTags.{boolean, integer, bit_string, octet_string, null, object_identifier}
use Rattle.term_values.specs.UniversalTags.{enumerated}
use Rattle.term_values.specs.UniversalTags.{sequence, set, generalized_time, text_tag}
use Rattle.term_values.specs.ValueContents.{truth_contents, whole_contents, bits_contents, octets_contents}
use Rattle.term_values.specs.ValueContents.{identifier_contents}
use Rattle.term_values.specs.ValueContents.{text_contents, time_contents, raw_octets, of_parts, of_members, of_pick}
use Rattle.term_values.specs.declared.tag.Tag.{Tag}

-- a component that equals its default is not written
abbrev pub unless_default : Option TypedValue → TypedValue → List ℕ → List (List ℕ) → List (List ℕ)
unless_default None value encoding others = encoding ∷ others
unless_default (Some default) value encoding others = if same_value value default then others else encoding ∷ others

abbrev mutual
  -- the octets of a value under its tag, or under an implicit one in its place
  pub der_as : Option Tag → TypeSyntax → TypedValue → List ℕ
  der_as tag Boolean value = encoded false (due tag boolean) (truth_contents value)
  der_as tag (Integer names ranges) value = encoded false (due tag integer) (whole_contents value)
  der_as tag (Enumerated names) value = encoded false (due tag enumerated) (whole_contents value)
  der_as tag (BitString names sizes) value = encoded false (due tag bit_string) (bits_contents value)
  der_as tag (OctetString sizes) value = encoded false (due tag octet_string) (octets_contents value)
  der_as tag NullType value = encoded false (due tag null) []
  der_as tag ObjectIdentifier value = encoded false (due tag object_identifier) (identifier_contents value)
  der_as tag (TextString charset sizes) value = encoded false (due tag (text_tag charset)) (text_contents value)
  der_as tag GeneralizedTime value = encoded false (due tag generalized_time) (time_contents value)
  der_as tag (Sequence parts) value = encoded true (due tag sequence) (joined (of_parts (part_encodings parts) value))
  der_as tag (SetType parts) value =
      encoded true (due tag set) (joined (rising (of_parts (part_encodings parts) value)))
  der_as tag (SequenceOf member sizes) value =
      encoded true (due tag sequence) (joined (of_members (der_as None member) value))
  der_as tag (SetOf member sizes) value = encoded true (due tag set) (joined (of_members (der_as None member) value))
  der_as tag (Choice parts) value = of_pick (pick_encoding parts) value
  der_as tag (Tagged own true of) value = encoded true (due tag own) (der_as None of value)
  der_as tag (Tagged own false of) value = der_as (Some (due tag own)) of value
  der_as tag Any value = raw_octets value
  der_as tag Filter value = raw_octets value

  -- the encodings of the components that are written, in the order of the type
  pub part_encodings : TypeParts → TypedSlots → List (List ℕ)
  part_encodings NoParts slots = []
  part_encodings (Part name syntax optional default rest) NoSlots = []
  part_encodings (Part name syntax optional default rest) (Empty slots) = part_encodings rest slots
  part_encodings (Part name syntax optional default rest) (Filled value slots) =
      unless_default default value (der_as None syntax value) (part_encodings rest slots)

  -- the octets of a value of the alternative with this index
  pub pick_encoding : TypeParts → ℕ → TypedValue → List ℕ
  pick_encoding NoParts index value = []
  pick_encoding (Part name syntax optional default rest) zero value = der_as None syntax value
  pick_encoding (Part name syntax optional default rest) (suc index) value = pick_encoding rest index value

-- the octets of a value of the syntax
abbrev pub der : TypeSyntax → TypedValue → List ℕ
der syntax value = der_as None syntax value
