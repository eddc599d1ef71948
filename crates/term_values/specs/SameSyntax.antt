-- Equality of syntaxes, as a test: X.680, section 3. Names of numbers, of components and of alternatives count, and
-- so do ranges, tags and defaults.
use Rattle.std.specs.Prelude.{ℕ, ℤ, List, Bool, true, false, ◌==◌, ◌&&◌, not, Option, None, Some, if◌then◌else◌}
use Rattle.std.specs.Cmp.Lexicographic.{pointwise}
use Rattle.std.specs.Ordering.{int_eq}
use Rattle.term_values.specs.SameValue.{same_octets, same_value}
use Rattle.term_values.specs.Syntaxes.{Bounds, Named, TypeSyntax, TypeParts}
use Rattle.term_values.specs.Syntaxes.TypeSyntax.{Boolean, Integer, Enumerated, BitString, OctetString, NullType}
use Rattle.term_values.specs.Syntaxes.TypeSyntax.{ObjectIdentifier, TextString, GeneralizedTime, Sequence, SetType}
use Rattle.term_values.specs.Syntaxes.TypeSyntax.{SequenceOf, SetOf, Choice, Tagged, Any, Filter}
use Rattle.term_values.specs.Syntaxes.TypeParts.{NoParts, Part}
use Rattle.term_values.specs.Tag.{is_same_tag}
use Rattle.term_values.specs.Typed.{TypedValue}
use Rattle.term_values.specs.declared.charset.Charset.{Charset}
use Rattle.term_values.specs.declared.charset.Charset.TheVariants as charsets

abbrev pub same_name : List ℕ × ℤ → List ℕ × ℤ → Bool
same_name a b = same_octets a.0 b.0 && int_eq a.1 b.1

abbrev pub same_names : Named → Named → Bool
same_names xs ys = pointwise same_name xs ys

abbrev pub same_pair : ℤ × ℤ → ℤ × ℤ → Bool
same_pair a b = int_eq a.0 b.0 && int_eq a.1 b.1

abbrev pub same_bounds : Bounds → Bounds → Bool
same_bounds xs ys = pointwise same_pair xs ys

abbrev pub charset_number : Charset → ℕ
charset_number charsets.Numeric = 0
charset_number charsets.Printable = 1
charset_number charsets.Ia5 = 2
charset_number charsets.Visible = 3
charset_number charsets.Graphic = 4

abbrev pub same_charset : Charset → Charset → Bool
same_charset a b = charset_number a == charset_number b

abbrev pub same_mark : Bool → Bool → Bool
same_mark a b = if a then b else not b

abbrev pub same_default : Option TypedValue → Option TypedValue → Bool
same_default None None = true
same_default (Some a) (Some b) = same_value a b
same_default _ _ = false

abbrev mutual
  pub same_syntax : TypeSyntax → TypeSyntax → Bool
  same_syntax Boolean Boolean = true
  same_syntax (Integer xs a) (Integer ys b) = same_names xs ys && same_bounds a b
  same_syntax (Enumerated xs) (Enumerated ys) = same_names xs ys
  same_syntax (BitString xs a) (BitString ys b) = same_names xs ys && same_bounds a b
  same_syntax (OctetString a) (OctetString b) = same_bounds a b
  same_syntax NullType NullType = true
  same_syntax ObjectIdentifier ObjectIdentifier = true
  same_syntax (TextString x a) (TextString y b) = same_charset x y && same_bounds a b
  same_syntax GeneralizedTime GeneralizedTime = true
  same_syntax (Sequence xs) (Sequence ys) = same_parts xs ys
  same_syntax (SetType xs) (SetType ys) = same_parts xs ys
  same_syntax (SequenceOf x a) (SequenceOf y b) = same_syntax x y && same_bounds a b
  same_syntax (SetOf x a) (SetOf y b) = same_syntax x y && same_bounds a b
  same_syntax (Choice xs) (Choice ys) = same_parts xs ys
  same_syntax (Tagged t e x) (Tagged u f y) = is_same_tag t u && same_mark e f && same_syntax x y
  same_syntax Any Any = true
  same_syntax Filter Filter = true
  same_syntax _ _ = false

  pub same_parts : TypeParts → TypeParts → Bool
  same_parts NoParts NoParts = true
  same_parts (Part n x o d xs) (Part m y p e ys) =
      same_octets n m && same_syntax x y && same_mark o p && same_default d e && same_parts xs ys
  same_parts _ _ = false
