-- The strings that are read from a tree are those that it spells: X.690, sections 8.6, 8.7 and 8.23.
use Rattle.std.proofs.Common.{◌≡◌, Bool, true, false, Some, refl, ap, sym, ◌∙◌, ℕ, ◌==◌, ◌&&◌, ◌||◌, not, nat_lt, List}
use Rattle.std.proofs.Common.{[], ◌∷◌, ◌++◌, subst}
use Rattle.std.specs.Prelude.{◌<◌}
use Rattle.std.proofs.lemmas.Bool.{and_parts, eqb-true, eq-eqb, ltb-true, lt-ltb, and_from, or_right, or_left}
use Rattle.std.proofs.lemmas.Option.{none-some, same_Some, some_pair_parts}
use Rattle.term_values.specs.LeafReading.{octets_in, segments_in, bits_of, bits_in, bit_segments_in}
use Rattle.term_values.specs.Strings.{SpellsOctets, SegmentsSpell, BitContents, SpellsBits, BitSegmentsSpell, cleared}
use Rattle.term_values.specs.Tag.{is_same_tag}
use Rattle.term_values.specs.Times.{is_nothing}
use Rattle.term_values.specs.Tree.{TreeValue, TreeValues}
use Rattle.term_values.specs.Tree.TreeValue.{Primitive, Constructed}
use Rattle.term_values.specs.Tree.TreeValues.{Nothing, Then}
use Rattle.term_values.specs.TreeTags.{tag_of}
use Rattle.term_values.specs.UniversalTags.{octet_string, bit_string}
use Rattle.typed_laws.proofs.Choosing.{map_some, then_some, if_some, same_tag}

-- ---- strings of octets

mutual
  pub octets_spelt : (tree : TreeValue) (octets : List ℕ) → octets_in tree ≡ Some octets → SpellsOctets tree octets
  octets_spelt (Primitive tag contents) octets e = sym (same_Some contents octets e)
  octets_spelt (Constructed tag inside) octets e = segments_spelt inside octets e

  segments_spelt : (trees : TreeValues) (octets : List ℕ) → segments_in trees ≡ Some octets
      → SegmentsSpell trees octets
  segments_spelt Nothing octets e = sym (same_Some [] octets e)
  segments_spelt (Then x xs) octets e =
      let p = if_some (is_same_tag (tag_of x) octet_string) _ octets e in
      let f = then_some _ (octets_in x) octets p.1 in
      let b = map_some _ (segments_in xs) octets f.2 in (
        f.0,
        b.0,
        sym b.2,
        same_tag (tag_of x) octet_string p.0,
        octets_spelt x f.0 f.1,
        segments_spelt xs b.0 b.1,
      )

is_segment : (x : TreeValue) → tag_of x ≡ octet_string → is_same_tag (tag_of x) octet_string ≡ true
is_segment x e = ap (λ t. is_same_tag t octet_string) e

mutual
  pub octets_read : (tree : TreeValue) (octets : List ℕ) → SpellsOctets tree octets → octets_in tree ≡ Some octets
  octets_read (Primitive tag contents) octets s = ap Some (sym s)
  octets_read (Constructed tag inside) octets s = segments_read inside octets s

  segments_read : (trees : TreeValues) (octets : List ℕ) → SegmentsSpell trees octets
      → segments_in trees ≡ Some octets
  segments_read Nothing octets s = ap Some (sym s)
  segments_read (Then x xs) octets s =
      rw (is_segment x s.3, octets_read x s.0 s.4, segments_read xs s.1 s.5) (ap Some (sym s.2))

-- ---- BIT STRINGs

abbrev bits_tested : List ℕ → ℕ → Bool
bits_tested given unused = nat_lt unused 8 && (unused == 0 || not (is_nothing given))

or_nothing : (b : Bool) → (b || false) ≡ true → b ≡ true
or_nothing true e = refl
or_nothing false e = e

none_unused : (given : List ℕ) (unused : ℕ) → (unused == 0 || not (is_nothing given)) ≡ true → given ≡ []
    → unused ≡ 0
none_unused [] unused e g = eqb-true unused 0 (or_nothing (unused == 0) e)
none_unused (x ∷ xs) unused e g = absurd (cc)

pub bits_contents_told : (contents octets : List ℕ) (unused : ℕ) → bits_of contents ≡ Some (octets, unused)
    → BitContents contents octets unused
bits_contents_told [] octets unused e = absurd (none-some _ e)
bits_contents_told (n ∷ given) octets unused e =
    let p = if_some (bits_tested given n) (Some (cleared n given, n)) (octets, unused) e in
    let q = some_pair_parts (cleared n given) octets n unused p.1 in
    let t = and_parts (nat_lt n 8) (n == 0 || not (is_nothing given)) p.0 in (
      given,
      ap (λ k. k ∷ given) q.1,
      subst (λ k. k < 8) q.1 (ltb-true n 8 t.0),
      λ g. sym q.1 ∙ none_unused given n t.1 g,
      sym q.0 ∙ ap (λ k. cleared k given) q.1,
    )

unused_or_some : (given : List ℕ) (unused : ℕ) → (given ≡ [] → unused ≡ 0)
    → (unused == 0 || not (is_nothing given)) ≡ true
unused_or_some [] unused h = or_left (unused == 0) false (eq-eqb unused 0 (h refl))
unused_or_some (x ∷ xs) unused h = or_right (unused == 0) true refl

pub bits_contents_read : (contents octets : List ℕ) (unused : ℕ) → BitContents contents octets unused
    → bits_of contents ≡ Some (octets, unused)
bits_contents_read contents octets unused s =
    ap bits_of s.1
    ∙ (rw (and_from (nat_lt unused 8) (unused == 0 || not (is_nothing s.0)) (lt-ltb unused 8 s.2)
    (unused_or_some s.0 unused s.3)) (ap (λ xs. Some (xs, unused)) (sym s.4)))

is_bits : (x : TreeValue) → tag_of x ≡ bit_string → is_same_tag (tag_of x) bit_string ≡ true
is_bits x e = ap (λ t. is_same_tag t bit_string) e

mutual
  pub bits_spelt : (tree : TreeValue) (octets : List ℕ) (unused : ℕ) → bits_in tree ≡ Some (octets, unused)
      → SpellsBits tree octets unused
  bits_spelt (Primitive tag contents) octets unused e = bits_contents_told contents octets unused e
  bits_spelt (Constructed tag inside) octets unused e = bit_segments_spelt inside octets unused e

  bit_segments_spelt : (trees : TreeValues) (octets : List ℕ) (unused : ℕ)
      → bit_segments_in trees ≡ Some (octets, unused) → BitSegmentsSpell trees octets unused
  bit_segments_spelt Nothing octets unused e =
      let q = some_pair_parts [] octets 0 unused e in
      (sym q.0, sym q.1)
  bit_segments_spelt (Then x Nothing) octets unused e =
      let p = if_some (is_same_tag (tag_of x) bit_string) _ (octets, unused) e in
      let f = then_some _ (bits_in x) (octets, unused) p.1 in
      let same = same_Some f.0 (octets, unused) f.2 in
      (same_tag (tag_of x) bit_string p.0, bits_spelt x octets unused (f.1 ∙ ap Some same))
  bit_segments_spelt (Then x (Then y ys)) octets unused e =
      let p = if_some (is_same_tag (tag_of x) bit_string) _ (octets, unused) e in
      let f = then_some _ (bits_in x) (octets, unused) p.1 in
      let z = if_some (f.0.1 == 0) _ (octets, unused) f.2 in
      let b = map_some _ (bit_segments_in (Then y ys)) (octets, unused) z.1 in
      let zero_bits = eqb-true f.0.1 0 z.0 in
      let first : bits_in x ≡ Some (f.0.0, 0) = f.1 ∙ ap (λ n. Some (f.0.0, n)) zero_bits in
      let q = some_pair_parts (f.0.0 ++ b.0.0) octets b.0.1 unused (ap Some b.2) in (
        f.0.0,
        b.0.0,
        sym q.0,
        same_tag (tag_of x) bit_string p.0,
        bits_spelt x f.0.0 0 first,
        bit_segments_spelt (Then y ys) b.0.0 unused (b.1 ∙ ap (λ n. Some (b.0.0, n)) q.1),
      )

mutual
  pub bits_read : (tree : TreeValue) (octets : List ℕ) (unused : ℕ) → SpellsBits tree octets unused
      → bits_in tree ≡ Some (octets, unused)
  bits_read (Primitive tag contents) octets unused s = bits_contents_read contents octets unused s
  bits_read (Constructed tag inside) octets unused s = bit_segments_read inside octets unused s

  bit_segments_read : (trees : TreeValues) (octets : List ℕ) (unused : ℕ) → BitSegmentsSpell trees octets unused
      → bit_segments_in trees ≡ Some (octets, unused)
  bit_segments_read Nothing octets unused s = λ i. Some (sym s.0 i, sym s.1 i)
  bit_segments_read (Then x Nothing) octets unused s = rw (is_bits x s.0, bits_read x octets unused s.1) refl
  bit_segments_read (Then x (Then y ys)) octets unused s =
      rw (is_bits x s.3, bits_read x s.0 0 s.4, bit_segments_read (Then y ys) s.1 unused s.5)
      (ap (λ xs. Some (xs, unused)) (sym s.2))
