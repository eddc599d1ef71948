-- The value of an ANY that is read from octets is kept in the one form: X.690, sections 8.1 and 10.1.
use Rattle.std.proofs.Common.{◌≡◌, ◌<◌, ◌*◌, ◌/◌, ◌%◌, ◌≤◌, ℕ, zero, suc, Bool, true, false, List, [], ◌∷◌}
use Rattle.std.proofs.Common.{None, Some, refl, ap, sym, ◌∙◌, subst, arith, length, inl, inr, ◌==◌, ⊎_elim, ◌⊎◌}
use Rattle.std.specs.Prelude.{if◌then◌else◌, option_and_then}
use Rattle.std.proofs.lemmas.Bool.{cases_lt}
use Rattle.std.proofs.lemmas.List.Elements.{All-cons, All-nil}
use Rattle.std.proofs.lemmas.Option.{none-some, same_Some}
use Rattle.term_values.proofs.Statements.{reading_spells_holds}
use Rattle.term_values.specs.Ber.{IsIdentifier, Spells, SpellsAll}
use Rattle.term_values.specs.BerReading.{tree_at, alone}
use Rattle.term_values.specs.Der.{written, written_all, identifier_octets, length_octets}
use Rattle.term_values.specs.Fits.{Fits}
use Rattle.term_values.specs.SpellingLaws.{AreOctets}
use Rattle.term_values.specs.Syntaxes.TypeSyntax.{Any}
use Rattle.term_values.specs.Tree.{TreeValue, TreeValues}
use Rattle.term_values.specs.Tree.TreeValue.{Primitive, Constructed}
use Rattle.term_values.specs.Tree.TreeValues.{Nothing, Then}
use Rattle.term_values.specs.Typed.{TypedValue}
use Rattle.term_values.specs.Typed.TypedValue.{Raw}
use Rattle.term_values.specs.ValueContents.{raw_octets}
use Rattle.term_values.specs.Writable.{IsTag, IsWritable, AreWritable}
use Rattle.term_values.specs.declared.tag.Tag.{Tag}
use Rattle.token_grammar.specs.Kinds.{hexadecimal_kind}
use Rattle.token_grammar.specs.declared.token.Token.{Token}
use Rattle.typed_laws.proofs.Choosing.{map_some, then_some, if_some}
use Rattle.typed_laws.proofs.WritableLaws.{contents_within, front_within, back_within}
use Rattle.asn1_leaf_values.specs.Bits.{packed, weighed, bits_of}
use Rattle.asn1_leaf_values.specs.LeafTexts.{any_said, tree_of, whole_octets}
use Rattle.asn1_leaf_values.specs.TextValues.{TextValue}
use Rattle.asn1_leaf_values.specs.TextValues.TextValue.{Literal, Number, Name, Chosen, InBraces, InArcs}

-- ---- a tree that octets spell can be written, where that takes fewer than 2 ^ 32 octets

small_number : (n : ℕ) (low high : Type 0) → (low → n < 31) → (high → n < 4294967296) → low ⊎ high → n < 4294967296
small_number n low high l h (inl x) = let s = l x in omega arith
small_number n low high l h (inr x) = h x

spelt_tag : (constructed : Bool) (tag : Tag) (octets : List ℕ) → IsIdentifier constructed tag octets → IsTag tag
spelt_tag constructed tag octets is = record {
  class = is.class;
  small = small_number tag.number _ _ (λ x. x.0) (λ x. x.1.small) is.spelt;
  used = is.used;
}

mutual
  spelt_writable : (depth : ℕ) (bytes : List ℕ) (tree : TreeValue) → Spells depth bytes tree
      → length (written tree) < 4294967296 → IsWritable depth tree
  spelt_writable depth bytes (Primitive tag contents) s short = (
    spelt_tag false tag s.identifier s.is_identifier,
    contents_within (identifier_octets false tag) (length_octets (length contents)) contents 4294967296 short,
  )
  spelt_writable zero bytes (Constructed tag inside) s short = absurd s
  spelt_writable (suc depth) bytes (Constructed tag inside) s short =
      let p = s.1 in
      let few = contents_within (identifier_octets true tag) (length_octets (length (written_all inside)))
      (written_all inside) 4294967296 short in
      (spelt_tag true tag p.identifier p.is_identifier, few, all_writable depth s.0 inside s.2 few)

  all_writable : (depth : ℕ) (bytes : List ℕ) (trees : TreeValues) → SpellsAll depth bytes trees
      → length (written_all trees) < 4294967296 → AreWritable depth trees
  all_writable depth bytes Nothing s short = tt
  all_writable depth bytes (Then x xs) s short = (
    spelt_writable depth s.0 x s.3 (front_within (written x) (written_all xs) 4294967296 short),
    all_writable depth s.1 xs s.4 (back_within (written x) (written_all xs) 4294967296 short),
  )

-- ---- octets of bits

no_weight : (bits : List Bool) → weighed 0 bits ≡ 0
no_weight [] = refl
no_weight (true ∷ bits) = let e = no_weight bits in omega arith
no_weight (false ∷ bits) = let e = no_weight bits in omega arith

counts_at_most : (bit : Bool) (weight : ℕ) → (if bit then weight else 0) ≤ weight
counts_at_most true weight = omega arith
counts_at_most false weight = omega arith

weighed_below : (weight : ℕ) (bits : List Bool) → 0 < weight → weighed weight bits < 2 * weight
weighed_below weight [] h = omega arith
weighed_below weight (bit ∷ bits) h =
    let one = counts_at_most bit weight in
    ⊎_elim
    (λ (some : 0 < weight / 2). let rest = weighed_below (weight / 2) bits some in omega arith)
    (λ (none : weight / 2 ≤ 0).
    let is : weight / 2 ≡ 0 = omega arith in
    let rest : weighed (weight / 2) bits ≡ 0 = ap (λ w. weighed w bits) is ∙ no_weight bits in
    omega arith)
    (cases_lt 0 (weight / 2))

abbrev IsOctet : ℕ → Type 0
IsOctet octet = octet < 256

one_octet : (bits : List Bool) → AreOctets (weighed 128 bits ∷ [])
one_octet bits = All-cons IsOctet (weighed 128 bits) [] (weighed_below 128 bits (omega arith)) (All-nil IsOctet)

packed_octets : (bits : List Bool) → AreOctets (packed bits)
packed_octets [] = All-nil IsOctet
packed_octets (a ∷ []) = one_octet (a ∷ [])
packed_octets (a ∷ (b ∷ [])) = one_octet (a ∷ b ∷ [])
packed_octets (a ∷ (b ∷ (c ∷ []))) = one_octet (a ∷ b ∷ c ∷ [])
packed_octets (a ∷ (b ∷ (c ∷ (d ∷ [])))) = one_octet (a ∷ b ∷ c ∷ d ∷ [])
packed_octets (a ∷ (b ∷ (c ∷ (d ∷ (e ∷ []))))) = one_octet (a ∷ b ∷ c ∷ d ∷ e ∷ [])
packed_octets (a ∷ (b ∷ (c ∷ (d ∷ (e ∷ (f ∷ [])))))) = one_octet (a ∷ b ∷ c ∷ d ∷ e ∷ f ∷ [])
packed_octets (a ∷ (b ∷ (c ∷ (d ∷ (e ∷ (f ∷ (g ∷ []))))))) = one_octet (a ∷ b ∷ c ∷ d ∷ e ∷ f ∷ g ∷ [])
packed_octets (a ∷ (b ∷ (c ∷ (d ∷ (e ∷ (f ∷ (g ∷ (h ∷ rest)))))))) =
    All-cons IsOctet (weighed 128 (a ∷ b ∷ c ∷ d ∷ e ∷ f ∷ g ∷ h ∷ [])) (packed rest)
    (weighed_below 128 (a ∷ b ∷ c ∷ d ∷ e ∷ f ∷ g ∷ h ∷ []) (omega arith)) (packed_octets rest)

token_octets : (token : Token) (octets : List ℕ)
    → option_and_then (λ bits. if length bits % 8 == 0 then Some (packed bits) else None) (bits_of token) ≡ Some octets
    → AreOctets octets
token_octets token octets e =
    let f = then_some (λ bits. if length bits % 8 == 0 then Some (packed bits) else None) (bits_of token) octets e in
    let p = if_some (length f.0 % 8 == 0) (Some (packed f.0)) octets f.2 in
    subst AreOctets (same_Some (packed f.0) octets p.1) (packed_octets f.0)

whole_are : (text : TextValue) (octets : List ℕ) → whole_octets text ≡ Some octets → AreOctets octets
whole_are (Literal token) octets e =
    let p = if_some (token.kind == hexadecimal_kind) _ octets e in
    token_octets token octets p.1
whole_are (Number minus digits) octets e = absurd (none-some _ e)
whole_are (Name name) octets e = absurd (none-some _ e)
whole_are (Chosen name text) octets e = absurd (none-some _ e)
whole_are (InBraces parts) octets e = absurd (none-some _ e)
whole_are (InArcs name digits) octets e = absurd (none-some _ e)

alone_is : (found : TreeValue × List ℕ) (tree : TreeValue) → alone found ≡ Some tree → found.0 ≡ tree
alone_is (found, []) tree e = same_Some found tree e
alone_is (found, octet ∷ octets) tree e = absurd (none-some _ e)

-- ---- the value

pub any_fits : (text : TextValue) (v : TypedValue) → any_said text ≡ Some v → length (raw_octets v) < 4294967296
    → Fits Any v
any_fits text v e short =
    let m = map_some (λ tree. Raw (written tree)) (option_and_then tree_of (whole_octets text)) v e in
    let f = then_some tree_of (whole_octets text) m.0 m.1 in
    let g = then_some alone (tree_at (length f.0) f.0) m.0 f.2 in
    let r = reading_spells_holds (length f.0) f.0 g.0.0 g.0.1 (whole_are text f.0 f.1) g.1 in
    let spells : Spells (length f.0) r.front m.0 =
    subst (λ (tree : TreeValue). Spells (length f.0) r.front tree) (alone_is g.0 m.0 g.2) r.spells in
    let few : length (written m.0) < 4294967296 =
    subst (λ (x : TypedValue). length (raw_octets x) < 4294967296) (sym m.2) short in
    subst (Fits Any) m.2 (record {
      depth = length f.0;
      tree = m.0;
      writable = spelt_writable (length f.0) r.front m.0 spells few;
      such = refl;
      whole = refl;
    })
