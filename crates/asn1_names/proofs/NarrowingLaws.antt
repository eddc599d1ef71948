-- NarrowingLaws: a syntax that has a place for ranges is narrowed by them (X.680, sections 49 to 51).
use Rattle.std.proofs.Common.{◌≡◌, ℤ, List, Bool, true, false, refl, sym, ◌∙◌, subst, true≢false}
use Rattle.term_values.specs.Syntaxes.{Named, Bounds, TypeSyntax}
use Rattle.term_values.specs.Syntaxes.TypeSyntax.{Integer, BitString, OctetString, TextString, SequenceOf, SetOf}
use Rattle.term_values.specs.Syntaxes.TypeSyntax.{Tagged}
use Rattle.term_values.specs.declared.charset.Charset.{Charset}
use Rattle.term_values.specs.declared.tag.Tag.{Tag}
use Rattle.range_sets.specs.RangeSets.{Leaves}
use Rattle.asn1_names.specs.Constraining.{Narrows}
use Rattle.asn1_names.specs.Constraining.Narrows.{values, bits, octets, characters, elements, members, tagged}
use Rattle.asn1_names.specs.Narrowing.{can_narrow}

-- ranges narrow the syntax, of sizes or of values, where it has a place for them
abbrev pub NarrowsWhere : List (ℤ × ℤ) → TypeSyntax → TypeSyntax → Type 0
NarrowsWhere ranges before after =
    (is_size : Bool) → can_narrow is_size before ≡ true → Narrows ranges is_size before after

pub narrows_as : (ranges : List (ℤ × ℤ)) (s t before after : TypeSyntax) → s ≡ before → t ≡ after →
    NarrowsWhere ranges before after → NarrowsWhere ranges s t
narrows_as ranges s t before after e f h =
    subst (λ z. NarrowsWhere ranges z t) (sym e) (subst (λ z. NarrowsWhere ranges before z) (sym f) h)

pub integer_narrows : (ranges : List (ℤ × ℤ)) (names : Named) (before after : Bounds) → Leaves before ranges after →
    NarrowsWhere ranges (Integer names before) (Integer names after)
integer_narrows ranges names before after h true e = absurd (true≢false (sym e))
integer_narrows ranges names before after h false e = values h

pub bits_narrow : (ranges : List (ℤ × ℤ)) (names : Named) (before after : Bounds) → Leaves before ranges after →
    NarrowsWhere ranges (BitString names before) (BitString names after)
bits_narrow ranges names before after h true e = bits h
bits_narrow ranges names before after h false e = absurd (true≢false (sym e))

pub octets_narrow : (ranges : List (ℤ × ℤ)) (before after : Bounds) → Leaves before ranges after →
    NarrowsWhere ranges (OctetString before) (OctetString after)
octets_narrow ranges before after h true e = octets h
octets_narrow ranges before after h false e = absurd (true≢false (sym e))

pub text_narrows : (ranges : List (ℤ × ℤ)) (charset : Charset) (before after : Bounds) → Leaves before ranges after →
    NarrowsWhere ranges (TextString charset before) (TextString charset after)
text_narrows ranges charset before after h true e = characters h
text_narrows ranges charset before after h false e = absurd (true≢false (sym e))

pub list_narrows : (ranges : List (ℤ × ℤ)) (element : TypeSyntax) (before after : Bounds) → Leaves before ranges after →
    NarrowsWhere ranges (SequenceOf element before) (SequenceOf element after)
list_narrows ranges element before after h true e = elements h
list_narrows ranges element before after h false e = absurd (true≢false (sym e))

pub set_narrows : (ranges : List (ℤ × ℤ)) (element : TypeSyntax) (before after : Bounds) → Leaves before ranges after →
    NarrowsWhere ranges (SetOf element before) (SetOf element after)
set_narrows ranges element before after h true e = members h
set_narrows ranges element before after h false e = absurd (true≢false (sym e))

pub tagged_narrows : (ranges : List (ℤ × ℤ)) (tag : Tag) (explicit : Bool) (before after : TypeSyntax) →
    NarrowsWhere ranges before after → NarrowsWhere ranges (Tagged tag explicit before) (Tagged tag explicit after)
tagged_narrows ranges tag explicit before after h is_size e = tagged (h is_size e)
