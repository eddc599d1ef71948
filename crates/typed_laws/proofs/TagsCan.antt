-- The tags of a syntax can be written, one by one.
use Rattle.std.proofs.Common.{◌≡◌, ◌+◌, ◌^◌, true, ◌&&◌, nat_lt}
use Rattle.std.proofs.lemmas.Bool.{and_parts, ltb-true}
use Rattle.term_values.specs.Syntaxes.{TypeSyntax, TypeParts}
use Rattle.term_values.specs.Syntaxes.TypeSyntax.{Boolean, Integer, Enumerated, BitString, OctetString, NullType}
use Rattle.term_values.specs.Syntaxes.TypeSyntax.{ObjectIdentifier, TextString, GeneralizedTime, Sequence, SetType}
use Rattle.term_values.specs.Syntaxes.TypeSyntax.{SequenceOf, SetOf, Choice, Tagged, Any, Filter}
use Rattle.term_values.specs.Syntaxes.TypeParts.{NoParts, Part}
use Rattle.term_values.specs.Writable.{IsTag}
use Rattle.term_values.specs.declared.tag.Tag.{Tag}
use Rattle.typed_laws.specs.SyntaxTags.{is_tag, has_tags, have_tags}

abbrev mutual
  pub HasTags : TypeSyntax → Type 0
  HasTags (Sequence parts) = HaveTags parts
  HasTags (SetType parts) = HaveTags parts
  HasTags (SequenceOf member sizes) = HasTags member
  HasTags (SetOf member sizes) = HasTags member
  HasTags (Choice parts) = HaveTags parts
  HasTags (Tagged own explicit of) = IsTag own × HasTags of
  HasTags _ = Unit {0}

  pub HaveTags : TypeParts → Type 0
  HaveTags NoParts = Unit {0}
  HaveTags (Part name syntax optional default rest) = HasTags syntax × HaveTags rest

tag_can : (tag : Tag) → is_tag tag ≡ true → IsTag tag
tag_can tag e =
    let p = and_parts (nat_lt tag.class 4) (nat_lt tag.number (2 ^ 32) && nat_lt 0 (tag.class + tag.number)) e in
    let q = and_parts (nat_lt tag.number (2 ^ 32)) (nat_lt 0 (tag.class + tag.number)) p.1 in
    record {
      class = ltb-true tag.class 4 p.0;
      small = ltb-true tag.number (2 ^ 32) q.0;
      used = ltb-true 0 (tag.class + tag.number) q.1;
    }

mutual
  pub tags_can : (syntax : TypeSyntax) → has_tags syntax ≡ true → HasTags syntax
  tags_can (Sequence parts) e = all_can parts e
  tags_can (SetType parts) e = all_can parts e
  tags_can (SequenceOf member sizes) e = tags_can member e
  tags_can (SetOf member sizes) e = tags_can member e
  tags_can (Choice parts) e = all_can parts e
  tags_can (Tagged own explicit of) e =
      let p = and_parts (is_tag own) (has_tags of) e in
      (tag_can own p.0, tags_can of p.1)
  tags_can Boolean e = tt
  tags_can (Integer names ranges) e = tt
  tags_can (Enumerated names) e = tt
  tags_can (BitString names sizes) e = tt
  tags_can (OctetString sizes) e = tt
  tags_can NullType e = tt
  tags_can ObjectIdentifier e = tt
  tags_can (TextString charset sizes) e = tt
  tags_can GeneralizedTime e = tt
  tags_can Any e = tt
  tags_can Filter e = tt

  all_can : (parts : TypeParts) → have_tags parts ≡ true → HaveTags parts
  all_can NoParts e = tt
  all_can (Part name syntax optional default rest) e =
      let p = and_parts (has_tags syntax) (have_tags rest) e in
      (tags_can syntax p.0, all_can rest p.1)
