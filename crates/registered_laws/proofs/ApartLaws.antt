-- ApartLaws: of documents without a fault of labels no two linked parts of a table have one identifier, where the
-- identifiers of a document stand at places of their own (X.722, section 8.2; docs/PROFILE.md, section 12).
use Rattle.std.specs.Prelude.{◌≡◌, ◌≢◌, ◌⊎◌, ◌<◌, ◌==◌, ◌&&◌, ◌||◌, ◌∷◌, [], ℕ, List, Bool, true, false, Option, None}
use Rattle.std.specs.Prelude.{Some}
use Rattle.std.specs.Prelude.{AllPairs, cond, filter, get_or, nat_lt, option_and_then, refl, slice_get}
use Rattle.std.proofs.Common.{ap, inl, inr, sym}
use Rattle.std.proofs.Math.Path.{subst}
use Rattle.std.proofs.lemmas.Bool.{cases_order, eq-eqb, lt-ltb}
use Rattle.std.proofs.lemmas.List.Kept.{AllPairs-filter}
use Rattle.std.proofs.lemmas.Option.{get_or_from_slice_get, same_Some, slice_get_within}
use Rattle.gdmo_names.specs.DocumentTemplates.{templates}
use Rattle.gdmo_names.specs.DoubleNames.{stands_earlier}
use Rattle.gdmo_names.specs.FirstLabelFault.{AreFaultless}
use Rattle.gdmo_names.specs.FirstLabelFault.LabelFault.{IdentifierDouble}
use Rattle.gdmo_names.specs.FirstNames.{IsIdentifier, Registers}
use Rattle.gdmo_names.specs.InStep.{AreEach}
use Rattle.gdmo_names.specs.PartTerms.{Placed, PartTerms, identifier_of}
use Rattle.gdmo_names.specs.TemplateTerms.{BodyTerm, IdentifierTerm, TemplateKind}
use Rattle.gdmo_names.specs.TemplateTerms.TemplateKind.{AttributeKind, ClassKind}
use Rattle.gdmo_linking.specs.LinkedNames.{IsLinkedIdentifier}
use Rattle.gdmo_linking.specs.LinkedTables.{is_kind, of_kind, table}
use Rattle.gdmo_linking.proofs.StepLaws.{each_from}
use Rattle.linked_parts.specs.declared.linked.Linked.{Linked}
use Rattle.linked_parts.specs.declared.linked.LinkedHead.{LinkedHead}
use Rattle.linked_templates.specs.LinkedMembers.{IsAttributeOf}
use Rattle.linked_templates.specs.LinkedTemplates.{IsClassOf}
use Rattle.linked_templates.specs.TemplateTables.{IsTemplate}
use Rattle.linked_types.specs.PartIdentifiers.{IsIdentified}
use Rattle.linked_documents.specs.LinkedParts.{AreLinkedParts}
use Rattle.schema_records.specs.ApartParts.{AreApart, HaveOwnIdentifiers}
use Rattle.registered_laws.specs.RegisteredApart.{AreRegisteredApart, AreTwoRegistered}
use Rattle.registered_laws.proofs.TableLaws.{stands_at}

-- ---- the order of registrations

before_by : (l e m : Bool) → l ≡ true → (l || e && m) ≡ true
before_by true e m is = refl
before_by false e m is = absurd (cc)

after_by : (l e m : Bool) → e ≡ true → m ≡ true → (l || e && m) ≡ true
after_by true e m same less = refl
after_by false true true same less = refl
after_by false true false same less = absurd (cc)
after_by false false m same less = absurd (cc)

-- one of two that stand at two places stands earlier
pub either_earlier : (a b p q : ℕ) → (a ≡ b → p ≢ q) → ((nat_lt a b || a == b && nat_lt p q) ≡ true) ⊎
    ((nat_lt b a || b == a && nat_lt q p) ≡ true)
either_earlier a b p q apart = by (cases_order a b)
  where
    within : (a ≡ b) → (p ≡ q) ⊎ ((p < q) ⊎ (q < p)) →
        ((nat_lt a b || a == b && nat_lt p q) ≡ true) ⊎ ((nat_lt b a || b == a && nat_lt q p) ≡ true)
    within same (inl one) = absurd (apart same one)
    within same (inr (inl less)) =
        inl (after_by (nat_lt a b) (a == b) (nat_lt p q) (eq-eqb a b same) (lt-ltb p q less))
    within same (inr (inr more)) =
        inr (after_by (nat_lt b a) (b == a) (nat_lt q p) (eq-eqb b a (sym same)) (lt-ltb q p more))

    by : (a ≡ b) ⊎ ((a < b) ⊎ (b < a)) →
        ((nat_lt a b || a == b && nat_lt p q) ≡ true) ⊎ ((nat_lt b a || b == a && nat_lt q p) ≡ true)
    by (inl same) = within same (cases_order p q)
    by (inr (inl less)) = inl (before_by (nat_lt a b) (a == b) (nat_lt p q) (lt-ltb a b less))
    by (inr (inr more)) = inr (before_by (nat_lt b a) (b == a) (nat_lt q p) (lt-ltb b a more))

-- two templates that are registered at two places have no arcs in common
pub never_double : (parts : PartTerms) → AreFaultless parts → (x y : Placed) (one other : IdentifierTerm)
    (arcs : List ℕ) → Registers parts x one → Registers parts y other → IsIdentifier parts one arcs →
    IsIdentifier parts other arcs → AreTwoRegistered x y → ⊥
never_double parts faultless x y one other arcs registers also is is_too two = by (either_earlier x.document y.document
    one.brace.at other.brace.at (two one other registers.is also.is))
  where
    by : (stands_earlier x one y other ≡ true) ⊎ (stands_earlier y other x one ≡ true) → ⊥
    by (inl before) = faultless IdentifierDouble y.document other.brace.at (record {
      later = y;
      identifier = other;
      registers = also;
      first = x;
      first_identifier = one;
      first_registers = registers;
      before = before;
      arcs = arcs;
      is = is_too;
      first_is = is;
      is_in = refl;
      is_brace = refl;
    })
    by (inr before) = faultless IdentifierDouble x.document one.brace.at (record {
      later = x;
      identifier = one;
      registers = registers;
      first = y;
      first_identifier = other;
      first_registers = also;
      before = before;
      arcs = arcs;
      is = is;
      first_is = is_too;
      is_in = refl;
      is_brace = refl;
    })

-- ---- tables

kept_kind : (kind : TemplateKind) (xs : List Placed) → of_kind kind xs ≡ filter (is_kind kind) xs
unfolding of_kind
kept_kind kind [] = refl
kept_kind kind (x ∷ xs) = ap (λ ys. cond (is_kind kind x) (x ∷ ys) ys) (kept_kind kind xs)

pub pairs_of_kind : (R : Placed → Placed → Type 0) (kind : TemplateKind) (xs : List Placed) → AllPairs R xs →
    AllPairs R (of_kind kind xs)
pairs_of_kind R kind xs all = subst (AllPairs R) (sym (kept_kind kind xs)) (AllPairs-filter R (is_kind kind) xs all)

pub pair_at : (R : Placed → Placed → Type 0) (xs : List Placed) (j k : ℕ) (x y : Placed) → AllPairs R xs → j < k →
    slice_get xs j ≡ Some x → slice_get xs k ≡ Some y → R x y
pair_at R xs j k x y all less at there =
    subst (λ z. R z y) (get_or_from_slice_get xs j x x at)
    (subst (R (get_or xs j x)) (get_or_from_slice_get xs k y x there)
    (all j k x less (slice_get_within xs k y there)))

-- what is linked at a place under an identifier
record IsRegisteredUnder (parts : PartTerms) (xs : List Placed) (k : ℕ) (id : List ℕ) : Type 0 where
  x : Placed
  at : slice_get xs k ≡ Some x
  own : IdentifierTerm
  states : identifier_of x.template ≡ Some own
  is : IsIdentifier parts own id

pub stated_of : (parts : PartTerms) (stated : Option IdentifierTerm) (own : Option (List ℕ)) (id : List ℕ) →
    own ≡ Some id → IsLinkedIdentifier parts stated own →
    (x : IdentifierTerm) × (stated ≡ Some x) × IsIdentifier parts x id
stated_of parts None None id is told = absurd (cc)
stated_of parts None (Some arcs) id is told = absurd told
stated_of parts (Some x) None id is told = absurd told
stated_of parts (Some x) (Some arcs) id is told = (x, refl, subst (IsIdentifier parts x) (same_Some arcs id is) told)

module _ {L : Type 0} (parts : PartTerms) (head : L → LinkedHead) (is : ℕ → BodyTerm → L → Type 0) where
  linked_at : (ys : List L) (k : ℕ) (id : List ℕ) (o : Option L) → slice_get ys k ≡ o →
      option_and_then (λ y. (head y).identifier) o ≡ Some id →
      (y : L) × (slice_get ys k ≡ Some y) × ((head y).identifier ≡ Some id)
  linked_at ys k id None at told = absurd (cc)
  linked_at ys k id (Some y) at told = (y, at, told)

  under : (xs : List Placed) (ys : List L) (k : ℕ) (id : List ℕ) → AreEach (IsTemplate parts head is) xs ys →
      IsIdentified head ys k id → IsRegisteredUnder parts xs k id
  under xs ys k id each identified =
      let there = linked_at ys k id (slice_get ys k) refl identified in
      let found = each_from (IsTemplate parts head is) xs ys k there.0 each there.1 in
      let own = stated_of parts (identifier_of found.0.template) (head there.0).identifier id there.2
      found.2.0.identifier in
      record { x = found.0; at = found.1; own = own.0; states = own.1; is = own.2 }

  module _ (faultless : AreFaultless parts) (apart : AreRegisteredApart parts) (kind : TemplateKind) (ys : List L)
      (each : AreEach (IsTemplate parts head is) (table parts kind) ys) where
    never_both : (j k : ℕ) (id : List ℕ) → IsIdentified head ys j id → IsIdentified head ys k id → j < k → ⊥
    never_both j k id one other less =
        let x = under (table parts kind) ys j id each one in
        let y = under (table parts kind) ys k id each other in
        never_double parts faultless x.x y.x x.own y.own id
        (record { stands = (stands_at kind (templates parts) j x.x x.at).stands; is = x.states })
        (record { stands = (stands_at kind (templates parts) k y.x y.at).stands; is = y.states }) x.is y.is
        (pair_at AreTwoRegistered (table parts kind) j k x.x y.x
        (pairs_of_kind AreTwoRegistered kind (templates parts) apart) less x.at y.at)

    pub table_apart : AreApart head ys
    table_apart j k id one other = by (cases_order j k)
      where
        by : (j ≡ k) ⊎ ((j < k) ⊎ (k < j)) → j ≡ k
        by (inl same) = same
        by (inr (inl less)) = absurd (never_both j k id one other less)
        by (inr (inr more)) = absurd (never_both k j id other one more)

pub own_identifiers : (parts : PartTerms) (linked : Linked) → AreLinkedParts parts linked → AreFaultless parts →
    AreRegisteredApart parts → HaveOwnIdentifiers linked
own_identifiers parts linked are faultless apart = record {
  classes = table_apart parts (λ x. x.head) (IsClassOf parts) faultless apart ClassKind linked.classes.items
      are.tables.classes;
  attributes = table_apart parts (λ x. x.head) (IsAttributeOf parts) faultless apart AttributeKind
      linked.attributes.items are.tables.attributes;
}
