-- What is read of trees that hold no others is what they denote: X.690, sections 8.2 to 8.8, 8.19 and 8.23.
use Rattle.std.proofs.Common.{◌≡◌, Bool, true, false, Some, refl, ap, sym, ◌∙◌, subst, ℕ, ◌<◌, ◌≤◌, ◌==◌, ◌&&◌, not}
use Rattle.std.proofs.Common.{nat_lt, nat_le, List, [], ◌∷◌, length, map, ⊎_elim, arith, ℤ, FitsSigned}
use Rattle.std.specs.Int.{w64}
use Rattle.std.specs.List.{list_all}
use Rattle.std.specs.Prelude.{option_and_then}
use Rattle.std.proofs.lemmas.Bool.{and_parts, false≢true, cases_Bool, ltb-true, ltb-false, leb-true}
use Rattle.std.proofs.lemmas.Option.{none-some, same_Some}
use Rattle.term_values.proofs.OidLaws.{oid_spelt}
use Rattle.term_values.specs.Bounded.{allowed_size, bit_count, has_character}
use Rattle.term_values.specs.Denotes.{IsWhole, IsString, IsIdentifier}
use Rattle.term_values.specs.LeafReading.{truth_in, null_in, bit_string_in, octet_string_in, identifier_in, text_in}
use Rattle.term_values.specs.LeafReading.{time_in, where_it, contents_in, octets_in, bits_in}
use Rattle.term_values.specs.Octets.{number, integer_in, integer_contents, are_least, signed_number, octet_turned}
use Rattle.term_values.specs.Oid.{oid_in}
use Rattle.term_values.specs.SpellingLaws.{AreOctets}
use Rattle.term_values.specs.Strings.{SpellsBits}
use Rattle.term_values.specs.Syntaxes.{Bounds}
use Rattle.term_values.specs.Times.{is_time}
use Rattle.term_values.specs.Tree.{TreeValue}
use Rattle.term_values.specs.Tree.TreeValue.{Primitive, Constructed}
use Rattle.term_values.specs.TreeTags.{tag_of}
use Rattle.term_values.specs.Typed.{TypedValue}
use Rattle.term_values.specs.Typed.TypedValue.{Truth, Int, Bits, Octets, Null, Identifier, Text, Time}
use Rattle.term_values.specs.declared.charset.Charset.{Charset}
use Rattle.term_values.specs.declared.tag.Tag.{Tag}
use Rattle.typed_laws.specs.TreeOctets.{HasOctets}
use Rattle.typed_laws.proofs.Choosing.{map_some, then_some, if_some}
use Rattle.term_values.proofs.IntegerLaws.{contents_of_value, number_below_sign}
use Rattle.typed_laws.proofs.StringsTold.{octets_spelt, bits_spelt}

-- a primitive value with these contents and this tag
pub primitive_is : (tag : Tag) (tree : TreeValue) (contents : List ℕ) → tag_of tree ≡ tag
    → contents_in tree ≡ Some contents → tree ≡ Primitive tag contents
primitive_is tag (Primitive own inside) contents t e =
    let same = same_Some inside contents e in
    λ i. Primitive (t i) (same i)
primitive_is tag (Constructed own inside) contents t e = absurd (none-some _ e)

contents_octets : (tree : TreeValue) (contents : List ℕ) → HasOctets tree → contents_in tree ≡ Some contents
    → AreOctets contents
contents_octets (Primitive own inside) contents h e = subst AreOctets (same_Some inside contents e) h
contents_octets (Constructed own inside) contents h e = absurd (none-some _ e)

pub where_is : (b : Bool) (x v : TypedValue) → where_it b x ≡ Some v → (b ≡ true) × (v ≡ x)
where_is true x v e = (refl, sym (same_Some x v e))
where_is false x v e = absurd (none-some _ e)

pub truth_told : (tag : Tag) (tree : TreeValue) (v : TypedValue) → tag_of tree ≡ tag → truth_in tree ≡ Some v
    → (octet : ℕ) × (tree ≡ Primitive tag (octet ∷ [])) × (v ≡ Truth (not (octet == 0)))
truth_told tag (Primitive own []) v t e = absurd (none-some _ e)
truth_told tag (Primitive own (octet ∷ [])) v t e =
    (octet, ap (λ x. Primitive x (octet ∷ [])) t, sym (same_Some (Truth (not (octet == 0))) v e))
truth_told tag (Primitive own (octet ∷ (next ∷ octets))) v t e = absurd (none-some _ e)
truth_told tag (Constructed own inside) v t e = absurd (none-some _ e)

pub null_told : (tag : Tag) (tree : TreeValue) (v : TypedValue) → tag_of tree ≡ tag → null_in tree ≡ Some v
    → (tree ≡ Primitive tag []) × (v ≡ Null)
null_told tag (Primitive own []) v t e = (ap (λ x. Primitive x []) t, sym (same_Some Null v e))
null_told tag (Primitive own (octet ∷ octets)) v t e = absurd (none-some _ e)
null_told tag (Constructed own inside) v t e = absurd (none-some _ e)

-- ---- whole numbers

signed_fits : (xs : List ℕ) → AreOctets xs → length xs ≤ 8 → are_least xs ≡ true → FitsSigned w64 (signed_number xs)
signed_fits [] h l e = absurd (false≢true e)
signed_fits (a ∷ others) h l e =
    ⊎_elim
    (λ (t : nat_lt a 128 ≡ true).
    let below = ltb-true a 128 t in
    rw t (record { sfits = plain (number_below_sign false (a ∷ others) h l below (omega arith)) }))
    (λ (f : nat_lt a 128 ≡ false).
    let above = ltb-false a 128 f in
    let top : a < 256 = h 0 0 (omega arith) in
    let first : octet_turned true a < 128 = omega arith in
    rw f (record { sfits = number_below_sign true (a ∷ others) h l first (omega arith) }))
    (cases_Bool (nat_lt a 128))
  where
    as_it_is : (ys : List ℕ) → map (octet_turned false) ys ≡ ys
    as_it_is [] = refl
    as_it_is (y ∷ ys) = ap (λ zs. y ∷ zs) (as_it_is ys)

    plain : number (map (octet_turned false) (a ∷ others)) < 9223372036854775808
        → number (a ∷ others) < 9223372036854775808
    plain p = subst (λ ys. number ys < 9223372036854775808) (as_it_is (a ∷ others)) p

pub whole_of : (contents : List ℕ) (n : ℤ) → AreOctets contents → integer_in contents ≡ Some n
    → (contents ≡ integer_contents n) × FitsSigned w64 n
unfolding integer_in
whole_of contents n h e =
    let p = if_some (nat_le (length contents) 8 && are_least contents) (Some (signed_number contents)) n e in
    let t = and_parts (nat_le (length contents) 8) (are_least contents) p.0 in
    let few = leb-true (length contents) 8 t.0 in
    let same = same_Some (signed_number contents) n p.1 in (
      sym (contents_of_value contents h few t.1) ∙ ap integer_contents same,
      subst (λ m. FitsSigned w64 m) same (signed_fits contents h few t.1),
    )

pub whole_told : (tag : Tag) (test : ℤ → Bool) (tree : TreeValue) (v : TypedValue) → HasOctets tree
    → tag_of tree ≡ tag
    → option_and_then (λ n. where_it (test n) (Int n)) (option_and_then integer_in (contents_in tree)) ≡ Some v
    → (n : ℤ) × IsWhole tag tree n × (test n ≡ true) × (v ≡ Int n)
whole_told tag test tree v h t e =
    let f = then_some _ (option_and_then integer_in (contents_in tree)) v e in
    let c = then_some integer_in (contents_in tree) f.0 f.1 in
    let w = where_is (test f.0) (Int f.0) v f.2 in
    let is = whole_of c.0 f.0 (contents_octets tree c.0 h c.1) c.2 in
    (f.0, (primitive_is tag tree c.0 t c.1 ∙ ap (Primitive tag) is.0, is.1), w.0, w.1)

-- ---- strings and identifiers

pub bit_string_told : (tag : Tag) (sizes : Bounds) (tree : TreeValue) (v : TypedValue) → tag_of tree ≡ tag
    → bit_string_in sizes tree ≡ Some v
    → (octets : List ℕ) × (unused : ℕ) × (tag_of tree ≡ tag) × SpellsBits tree octets unused
    × (allowed_size sizes (bit_count octets unused) ≡ true) × (v ≡ Bits octets unused)
bit_string_told tag sizes tree v t e =
    let f = then_some _ (bits_in tree) v e in
    let w = where_is (allowed_size sizes (bit_count f.0.0 f.0.1)) (Bits f.0.0 f.0.1) v f.2 in
    (f.0.0, f.0.1, t, bits_spelt tree f.0.0 f.0.1 f.1, w.0, w.1)

pub octet_string_told : (tag : Tag) (sizes : Bounds) (tree : TreeValue) (v : TypedValue) → tag_of tree ≡ tag
    → octet_string_in sizes tree ≡ Some v
    → (octets : List ℕ) × IsString tag tree octets × (allowed_size sizes (length octets) ≡ true)
    × (v ≡ Octets octets)
octet_string_told tag sizes tree v t e =
    let f = then_some _ (octets_in tree) v e in
    let w = where_is (allowed_size sizes (length f.0)) (Octets f.0) v f.2 in
    (f.0, (t, octets_spelt tree f.0 f.1), w.0, w.1)

pub text_told : (tag : Tag) (charset : Charset) (sizes : Bounds) (tree : TreeValue) (v : TypedValue)
    → tag_of tree ≡ tag → text_in charset sizes tree ≡ Some v
    → (octets : List ℕ) × IsString tag tree octets × (list_all (has_character charset) octets ≡ true)
    × (allowed_size sizes (length octets) ≡ true) × (v ≡ Text octets)
text_told tag charset sizes tree v t e =
    let f = then_some _ (octets_in tree) v e in
    let w =
    where_is (list_all (has_character charset) f.0 && allowed_size sizes (length f.0)) (Text f.0) v f.2 in
    let p = and_parts (list_all (has_character charset) f.0) (allowed_size sizes (length f.0)) w.0 in
    (f.0, (t, octets_spelt tree f.0 f.1), p.0, p.1, w.1)

pub time_told : (tag : Tag) (tree : TreeValue) (v : TypedValue) → tag_of tree ≡ tag → time_in tree ≡ Some v
    → (octets : List ℕ) × IsString tag tree octets × (is_time octets ≡ true) × (v ≡ Time octets)
time_told tag tree v t e =
    let f = then_some _ (octets_in tree) v e in
    let w = where_is (is_time f.0) (Time f.0) v f.2 in
    (f.0, (t, octets_spelt tree f.0 f.1), w.0, w.1)

pub identifier_told : (tag : Tag) (tree : TreeValue) (v : TypedValue) → tag_of tree ≡ tag
    → identifier_in tree ≡ Some v → (arcs : List ℕ) × IsIdentifier tag tree arcs × (v ≡ Identifier arcs)
identifier_told tag tree v t e =
    let f = map_some Identifier (option_and_then oid_in (contents_in tree)) v e in
    let c = then_some oid_in (contents_in tree) f.0 f.1 in
    let s = oid_spelt c.0 f.0 c.2 in
    (f.0, (primitive_is tag tree c.0 t c.1 ∙ ap (Primitive tag) (sym s.2), s.0, s.1), sym f.2)
