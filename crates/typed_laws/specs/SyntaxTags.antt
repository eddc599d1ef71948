-- Syntaxes of which each tag can be written: X.690, sections 8.1.2 and 8.1.5. A tag has one of the four classes and a
-- number of 32 bits, and none is universal 0, which stands for the end of contents.
use Rattle.std.specs.Prelude.{◌+◌, ◌^◌, Bool, true, ◌&&◌, nat_lt}
use Rattle.term_values.specs.Syntaxes.{TypeSyntax, TypeParts}
use Rattle.term_values.specs.Syntaxes.TypeSyntax.{Sequence, SetType, SequenceOf, SetOf, Choice, Tagged}
use Rattle.term_values.specs.Syntaxes.TypeParts.{NoParts, Part}
use Rattle.term_values.specs.declared.tag.Tag.{Tag}

abbrev pub is_tag : Tag → Bool
is_tag tag = nat_lt tag.class 4 && (nat_lt tag.number (2 ^ 32) && nat_lt 0 (tag.class + tag.number))

abbrev mutual
  pub has_tags : TypeSyntax → Bool
  has_tags (Sequence parts) = have_tags parts
  has_tags (SetType parts) = have_tags parts
  has_tags (SequenceOf member sizes) = has_tags member
  has_tags (SetOf member sizes) = has_tags member
  has_tags (Choice parts) = have_tags parts
  has_tags (Tagged own explicit of) = is_tag own && has_tags of
  has_tags _ = true

  pub have_tags : TypeParts → Bool
  have_tags NoParts = true
  have_tags (Part name syntax optional default rest) = has_tags syntax && have_tags rest
