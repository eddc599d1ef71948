-- Which tags a value of a syntax begins with: X.680, section 8.6; X.690, section 8.1.2.
use Rattle.std.specs.Prelude.{List, [], ◌∷◌, ◌++◌, Bool, true, false, ◌||◌, Option, None, Some}
use Rattle.term_values.specs.Syntaxes.{TypeSyntax, TypeParts}
use Rattle.term_values.specs.Syntaxes.TypeSyntax.{Boolean, Integer, Enumerated, BitString, OctetString, NullType}
use Rattle.term_values.specs.Syntaxes.TypeSyntax.{ObjectIdentifier, TextString, GeneralizedTime, Sequence, SetType}
use Rattle.term_values.specs.Syntaxes.TypeSyntax.{SequenceOf, SetOf, Choice, Tagged, Any, Filter}
use Rattle.term_values.specs.Syntaxes.TypeParts.{NoParts, Part}
use Rattle.term_values.specs.Tag.{context, is_same_tag}
use Rattle.term_values.specs.UniversalTags.{boolean, integer, bit_string, octet_string, null, object_identifier}
use Rattle.term_values.specs.UniversalTags.{enumerated}
use Rattle.term_values.specs.UniversalTags.{sequence, set, generalized_time, text_tag}
use Rattle.term_values.specs.declared.tag.Tag.{Tag}

-- the tags of either; no list stands for all tags
abbrev pub either_tags : Option (List Tag) → Option (List Tag) → Option (List Tag)
either_tags (Some xs) (Some ys) = Some (xs ++ ys)
either_tags _ _ = None

abbrev mutual
  -- the tags; no list stands for all tags, with which an ANY may begin
  pub first_tags : TypeSyntax → Option (List Tag)
  first_tags Boolean = Some (boolean ∷ [])
  first_tags (Integer names ranges) = Some (integer ∷ [])
  first_tags (Enumerated names) = Some (enumerated ∷ [])
  first_tags (BitString names sizes) = Some (bit_string ∷ [])
  first_tags (OctetString sizes) = Some (octet_string ∷ [])
  first_tags NullType = Some (null ∷ [])
  first_tags ObjectIdentifier = Some (object_identifier ∷ [])
  first_tags (TextString charset sizes) = Some (text_tag charset ∷ [])
  first_tags GeneralizedTime = Some (generalized_time ∷ [])
  first_tags (Sequence parts) = Some (sequence ∷ [])
  first_tags (SetType parts) = Some (set ∷ [])
  first_tags (SequenceOf member sizes) = Some (sequence ∷ [])
  first_tags (SetOf member sizes) = Some (set ∷ [])
  first_tags (Choice parts) = parts_tags parts
  first_tags (Tagged own explicit of) = Some (own ∷ [])
  first_tags Any = None
  first_tags Filter = Some (context 8 ∷ (context 9 ∷ (context 10 ∷ (context 11 ∷ []))))

  -- the tags of all alternatives
  pub parts_tags : TypeParts → Option (List Tag)
  parts_tags NoParts = Some []
  parts_tags (Part name syntax optional default rest) = either_tags (first_tags syntax) (parts_tags rest)

abbrev pub is_one_of : List Tag → Tag → Bool
is_one_of [] tag = false
is_one_of (x ∷ xs) tag = is_same_tag x tag || is_one_of xs tag

abbrev pub has_tag : Option (List Tag) → Tag → Bool
has_tag None tag = true
has_tag (Some tags) tag = is_one_of tags tag

-- a value of the syntax may begin with the tag
abbrev pub begins : TypeSyntax → Tag → Bool
begins syntax tag = has_tag (first_tags syntax) tag
