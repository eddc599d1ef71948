-- What the parts of a tree denote, and what is read of them: X.690, sections 8.9, 8.10 and 8.19.
use Rattle.std.proofs.Common.{◌≡◌, inl, inr, ℕ, List, [], ◌∷◌, None, Some, refl, sym, ap, ◌∙◌, subst}
use Rattle.std.proofs.lemmas.Option.{none-some, same_Some}
use Rattle.std.specs.Prelude.{option_and_then, if◌then◌else◌}
use Rattle.term_values.proofs.OidLaws.{oid_read, oid_spelt}
use Rattle.term_values.specs.CmipTypes.{one as one_part}
use Rattle.term_values.specs.Denotes.{Denotes, IsIdentifier, PartsDenote}
use Rattle.term_values.specs.Oid.{oid_contents, oid_in}
use Rattle.term_values.specs.Syntaxes.{TypeSyntax, TypeParts}
use Rattle.term_values.specs.Syntaxes.TypeSyntax.{Sequence}
use Rattle.term_values.specs.Tag.{is_same_tag, universal}
use Rattle.term_values.specs.Tree.{TreeValue, TreeValues, listed as trees_listed}
use Rattle.term_values.specs.Tree.TreeValue.{Primitive, Constructed}
use Rattle.term_values.specs.Tree.TreeValues.{Nothing, Then}
use Rattle.term_values.specs.Typed.{TypedValue, TypedSlots}
use Rattle.term_values.specs.Typed.TypedValue.{Identifier, Parts}
use Rattle.term_values.specs.Typed.TypedSlots.{Filled}
use Rattle.term_values.specs.declared.tag.Tag.{Tag}
use Rattle.typed_laws.proofs.Choosing.{if_some, same_itself, same_tag, then_some}
use Rattle.rose_frames.proofs.ApduDenoted.{slots_back}
use Rattle.term_model.specs.Parts.{contents_under, inside_under, oid_under, one, one_under}

-- ---- what is read

inside_told : (tag : Tag) (x : TreeValue) (inside : TreeValues) → inside_under tag x ≡ Some inside
    → x ≡ Constructed tag inside
inside_told tag (Primitive own contents) inside e = absurd (none-some _ e)
inside_told tag (Constructed own held) inside e =
    let t = if_some (is_same_tag own tag) (Some held) inside e in
    let own_is = same_tag own tag t.0 in
    let inside_is = same_Some held inside t.1 in
    λ i. Constructed (own_is i) (inside_is i)

pub one_told : (tag : Tag) (x y : TreeValue) → one_under tag x ≡ Some y → x ≡ Constructed tag (Then y Nothing)
one_told tag x y e =
    let f = then_some one (inside_under tag x) y e in
    inside_told tag x f.0 f.1 ∙ ap (Constructed tag) (alone f.0 f.2)
  where
    alone : (xs : TreeValues) → one xs ≡ Some y → xs ≡ Then y Nothing
    alone Nothing e = absurd (none-some _ e)
    alone (Then a Nothing) e = ap (λ b. Then b Nothing) (same_Some a y e)
    alone (Then a (Then b xs)) e = absurd (none-some _ e)

pub oid_told : (tag : Tag) (x : TreeValue) (arcs : List ℕ) → oid_under tag x ≡ Some arcs → IsIdentifier tag x arcs
oid_told tag (Constructed own inside) arcs e = absurd (none-some _ e)
oid_told tag (Primitive own contents) arcs e =
    let f = then_some oid_in (contents_under tag (Primitive own contents)) arcs e in
    let t = if_some (is_same_tag own tag) (Some contents) f.0 f.1 in
    let s = oid_spelt f.0 arcs f.2 in
    let own_is = same_tag own tag t.0 in
    let contents_are = same_Some contents f.0 t.1 ∙ sym s.2 in
    (λ i. Primitive (own_is i) (contents_are i), s.0, s.1)

pub oid_given : (tag : Tag) (x : TreeValue) (arcs : List ℕ) → IsIdentifier tag x arcs → oid_under tag x ≡ Some arcs
oid_given tag x arcs d =
    ap (oid_under tag) d.0
    ∙ ap (λ b. option_and_then oid_in (if b then Some (oid_contents arcs) else None)) (same_itself tag)
    ∙ oid_read arcs d.1 d.2

-- ---- what is denoted

abbrev arcs_back : TypedValue → List ℕ
arcs_back (Identifier arcs) = arcs
arcs_back _ = []

pub identifier_back : (tag : Tag) (x : TreeValue) (arcs : List ℕ)
    → (found : List ℕ) × IsIdentifier tag x found × (Identifier arcs ≡ Identifier found) → IsIdentifier tag x arcs
identifier_back tag x arcs d = subst (IsIdentifier tag x) (sym (ap arcs_back d.2)) d.1

-- the values in a SEQUENCE
pub record Row (parts : TypeParts) (tree : TreeValue) (slots : TypedSlots) : Type 0 where
  pub inside : List TreeValue
  pub is : tree ≡ Constructed (universal 16) (trees_listed inside)
  pub denote : PartsDenote parts inside slots

pub sequence_back : (parts : TypeParts) (tree : TreeValue) (slots : TypedSlots)
    → Denotes (Sequence parts) tree (Parts slots) → Row parts tree slots
sequence_back parts tree slots d =
    record { inside = d.0; is = d.2; denote = subst (PartsDenote parts d.0) (sym (ap slots_back d.4)) d.3 }

-- a component that is there, and those that follow
pub record Present (syntax : TypeSyntax) (rest : TypeParts) (trees : List TreeValue) (v : TypedValue)
    (slots : TypedSlots) : Type 0 where
  pub first : TreeValue
  pub others : List TreeValue
  pub are : trees ≡ first ∷ others
  pub denotes : Denotes syntax first v
  pub follow : PartsDenote rest others slots

pub present : (name : List ℕ) (syntax : TypeSyntax) (rest : TypeParts) (trees : List TreeValue) (v : TypedValue)
    (slots : TypedSlots) → PartsDenote (one_part name syntax rest) trees (Filled v slots)
    → Present syntax rest trees v slots
present name syntax rest [] v slots p = elim p [ inl f ↦ absurd f | inr f ↦ absurd f ]
present name syntax rest (x ∷ xs) v slots p =
    elim p [
      | inl f ↦ record { first = x; others = xs; are = refl; denotes = f.0; follow = f.1 }
      | inr f ↦ absurd f
    ]
