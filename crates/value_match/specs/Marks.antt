-- The identifier octets with which a value begins, as one number whose order is that of the octets: X.690, section
-- 8.1.2.
use Rattle.std.specs.Prelude.{ℕ, zero, suc, List, ◌+◌, ◌*◌, ◌/◌, ◌%◌, Bool, true, false, Option, None, Some, nat_lt}
use Rattle.std.specs.Prelude.{slice_index_or, if◌then◌else◌}
use Rattle.term_values.specs.Syntaxes.{TypeSyntax, TypeParts}
use Rattle.term_values.specs.Syntaxes.TypeSyntax.{Boolean, Integer, Enumerated, BitString, OctetString, NullType}
use Rattle.term_values.specs.Syntaxes.TypeSyntax.{ObjectIdentifier, TextString, GeneralizedTime, Sequence, SetType}
use Rattle.term_values.specs.Syntaxes.TypeSyntax.{SequenceOf, SetOf, Choice, Tagged, Any, Filter}
use Rattle.term_values.specs.Syntaxes.TypeParts.{NoParts, Part}
use Rattle.term_values.specs.TreeTags.{due}
use Rattle.term_values.specs.Typed.{TypedValue}
use Rattle.term_values.specs.Typed.TypedValue.{Pick, Raw}
use Rattle.term_values.specs.UniversalTags.{boolean, integer, bit_string, octet_string, null, object_identifier}
use Rattle.term_values.specs.UniversalTags.{enumerated}
use Rattle.term_values.specs.UniversalTags.{sequence, set, generalized_time, text_tag}
use Rattle.term_values.specs.declared.tag.Tag.{Tag}
use Rattle.value_match.specs.LeafKeys.{arc_place, five}

-- a tag's number, which has one octet where it is below 31, and else those of a subidentifier behind 31
abbrev pub tag_place : ℕ → ℕ
tag_place n = if nat_lt n 31 then n * 1099511627776 else 31 * 1099511627776 + arc_place n

-- class and form stand in front
abbrev pub mark : Bool → Tag → ℕ
mark constructed tag = (tag.class % 4 * 2 + (if constructed then 1 else 0)) * 281474976710656 + tag_place tag.number

-- of an encoding: its first six octets, zeros standing where it has fewer
abbrev pub first_octets : List ℕ → ℕ
first_octets octets =
    slice_index_or octets 0 0 / 32 * 281474976710656 + slice_index_or octets 0 0 % 32 * 1099511627776
    + five (slice_index_or octets 1 0) (slice_index_or octets 2 0) (slice_index_or octets 3 0)
    (slice_index_or octets 4 0) (slice_index_or octets 5 0)

abbrev mutual
  -- of a value under its tag, or under an implicit one in its place. An ANY or a CMISFilter is an encoding.
  pub mark_as : Option Tag → TypeSyntax → TypedValue → ℕ
  mark_as tag Boolean value = mark false (due tag boolean)
  mark_as tag (Integer names ranges) value = mark false (due tag integer)
  mark_as tag (Enumerated names) value = mark false (due tag enumerated)
  mark_as tag (BitString names sizes) value = mark false (due tag bit_string)
  mark_as tag (OctetString sizes) value = mark false (due tag octet_string)
  mark_as tag NullType value = mark false (due tag null)
  mark_as tag ObjectIdentifier value = mark false (due tag object_identifier)
  mark_as tag (TextString charset sizes) value = mark false (due tag (text_tag charset))
  mark_as tag GeneralizedTime value = mark false (due tag generalized_time)
  mark_as tag (Sequence parts) value = mark true (due tag sequence)
  mark_as tag (SetType parts) value = mark true (due tag set)
  mark_as tag (SequenceOf member sizes) value = mark true (due tag sequence)
  mark_as tag (SetOf member sizes) value = mark true (due tag set)
  mark_as tag (Choice parts) (Pick index value) = pick_mark parts index value
  mark_as tag (Tagged own true of) value = mark true (due tag own)
  mark_as tag (Tagged own false of) value = mark_as (Some (due tag own)) of value
  mark_as tag Any (Raw octets) = first_octets octets
  mark_as tag Filter (Raw octets) = first_octets octets
  mark_as tag _ value = 0

  -- of a value of the alternative with this index
  pub pick_mark : TypeParts → ℕ → TypedValue → ℕ
  pick_mark NoParts index value = 0
  pick_mark (Part name syntax optional default rest) zero value = mark_as None syntax value
  pick_mark (Part name syntax optional default rest) (suc index) value = pick_mark rest index value
