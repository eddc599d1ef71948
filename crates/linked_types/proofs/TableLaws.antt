-- TableLaws: a type that is added to a table of types, and places that stay.
use Rattle.std.proofs.Common.{◌≡◌, ◌⊎◌, ◌∙◌, ℕ, zero, suc, List, [], ◌∷◌, ◌++◌, Option, None, Some, refl, sym, inl, inr}
use Rattle.std.proofs.Common.{ap, length}
use Rattle.std.proofs.Common.{◌<◌, arith, get_or}
use Rattle.std.specs.Prelude.{slice_get, slice_set, unwrap_or}
use Rattle.std.proofs.Math.Path.{subst}
use Rattle.asn1_names.specs.AssignmentNumbers.{Numbered, numbered_at}
use Rattle.asn1_names.specs.CodeMeanings.{IsTypeNumber, Means}
use Rattle.asn1_names.specs.ModuleTerms.{AssignedTerm, AssignmentTerm, ModuleTerm, TypeTerm}
use Rattle.asn1_names.specs.ModuleTerms.AssignedTerm.{AssignsType, AssignsValue}
use Rattle.asn1_names.specs.NameMeaning.{assigned_meaning, standard_meaning}
use Rattle.asn1_names.specs.NameMeaning.Meaning.{TypeAt}
use Rattle.asn1_names.specs.declared.name_tables.Meaning.{Meaning}
use Rattle.asn1_names.specs.declared.name_tables.Meaning.TheVariants as code
use Rattle.token_grammar.specs.declared.token.Token.{Token}
use Rattle.linked_parts.specs.declared.linked.Linked.{Linked}
use Rattle.linked_parts.specs.declared.linked.NamedMeaning.{NamedMeaning}
use Rattle.linked_parts.specs.declared.linked.NamedMeaning.TheVariants.{Assigned, Standard}
use Rattle.filled_syntaxes.specs.LinkedMeanings.{assignment_meaning, linked_arcs, linked_meaning, meaning_in}
use Rattle.filled_syntaxes.specs.LinkedMeanings.{meaning_of_assignment}
use Rattle.filled_syntaxes.specs.BadDefaults.{TellsFilled}
use Rattle.filled_syntaxes.specs.NotedTexts.{TextSet}
use Rattle.filled_syntaxes.specs.declared.bad_texts.TextPlace.{TextPlace}
use Rattle.filled_syntaxes.proofs.NotingTexts.{get_cases, get_front, get_last}
use Rattle.linked_types.specs.TypeTables.{Grows, IsKept, IsTypeAt, IsTypeTable, KeepsAssigned, KeepsPlace}
use Rattle.linked_types.specs.TypeTables.{KeepsStandard, NamesTypes, behind_module, type_at, with_assigned}
use Rattle.asn1_names.specs.StandardModule.{standard_module_name, standard_type}
use Rattle.linked_types.specs.declared.type_table.NamedType.{NamedType}
use Rattle.linked_types.specs.declared.type_table.StandardPlace.{StandardPlace}
use Rattle.linked_types.specs.declared.type_table.TypeTable.{TypeTable}
use Rattle.linked_types.proofs.NotingSome.{both_noted, noted_by, none_noted}

pub some_is : {X : Type 0} (x y : X) → Some x ≡ Some y → x ≡ y
some_is x y is = ap (λ z. unwrap_or z x) is

pub there_once : {X : Type 0} (o : Option X) (x y : X) → o ≡ Some x → o ≡ Some y → x ≡ y
there_once o x y p q = some_is x y (sym p ∙ q)

-- ---- which assignment a number means

term_at : (m i a b : ℕ) (of : TypeTerm) (x : AssignedTerm) → assigned_meaning m i x ≡ TypeAt a b of → (m ≡ a) × (i ≡ b)
term_at m i a b of (AssignsType t) e = (cc, cc)
term_at m i a b of (AssignsValue t number text) e = absurd (cc)

assignment_at : (m i a b : ℕ) (of : TypeTerm) (x : Option AssignmentTerm) →
    meaning_of_assignment m i x ≡ TypeAt a b of →
    (m ≡ a) × (i ≡ b)
assignment_at m i a b of None e = absurd (cc)
assignment_at m i a b of (Some x) e = term_at m i a b of x.assigned e

module_at : (m i a b : ℕ) (of : TypeTerm) (x : Option ModuleTerm) → meaning_in m i x ≡ TypeAt a b of → (m ≡ a) × (i ≡ b)
module_at m i a b of None e = absurd (cc)
module_at m i a b of (Some x) e = assignment_at m i a b of (slice_get x.assignments i) e

one_assignment : (ms : List ModuleTerm) (number m i k j : ℕ) → IsTypeNumber ms number (assignment_meaning ms m i) →
    IsTypeNumber ms number (assignment_meaning ms k j) → (m ≡ k) × (i ≡ j)
one_assignment ms number m i k j p q =
    let same : p.numbered ≡ q.numbered = there_once (numbered_at ms number) p.numbered q.numbered p.at q.at in
    let one = module_at m i p.numbered.in_module p.numbered.place p.of (slice_get ms m) p.is in
    let other = module_at k j q.numbered.in_module q.numbered.place q.of (slice_get ms k) q.is in (
      one.0 ∙ ap (λ (x : Numbered). x.in_module) same ∙ sym other.0,
      one.1 ∙ ap (λ (x : Numbered). x.place) same ∙ sym
          other.1,
    )

-- ---- places that stay

pub type_stays : {ms : List ModuleTerm} {linked : Linked} {named : NamedMeaning} {old new : TypeTable} {place : ℕ} →
    Grows old new → IsTypeAt ms linked named old place → IsTypeAt ms linked named new place
type_stays {place = place} grows h = record { item = h.item; stands = grows.stays place h.item h.stands; told = h.told }

pub grows_on : {old between new : TypeTable} → Grows old between → Grows between new → Grows old new
grows_on p q = record { stays = λ place x is. q.stays place x (p.stays place x is) }

pub grows_none : (table : TypeTable) → Grows table table
grows_none table = record { stays = λ place x is. is }

pub grows_pushed : (old new : TypeTable) (x : NamedType) → new.items.items ≡ old.items.items ++ x ∷ [] → Grows old new
grows_pushed old new x pushed = record {
  stays = λ place y is. subst (λ xs. slice_get xs place ≡ Some y) (sym pushed) (get_front old.items.items x place y is);
}

pub stands_pushed : (old new : TypeTable) (x : NamedType) (place : ℕ) → new.items.items ≡ old.items.items ++ x ∷ [] →
    place ≡ length old.items.items → type_at new place ≡ Some x
stands_pushed old new x place pushed is =
    subst (λ k. slice_get new.items.items k ≡ Some x) (sym is)
    (subst (λ xs. slice_get xs (length old.items.items) ≡ Some x) (sym pushed) (get_last old.items.items x))

-- ---- a further place that is kept

set_cases : (xs : List (Option ℕ)) (n p k q : ℕ) → slice_get (slice_set xs n (Some p)) k ≡ Some (Some q) →
    (slice_get xs k ≡ Some (Some q)) ⊎ ((k ≡ n) × (p ≡ q))
set_cases [] n p k q is = inl is
set_cases (x ∷ xs) zero p zero q is = inr (refl, some_is p q (some_is (Some p) (Some q) is))
set_cases (x ∷ xs) zero p (suc k) q is = inl is
set_cases (x ∷ xs) (suc n) p zero q is = inl is
set_cases (x ∷ xs) (suc n) p (suc k) q is = deeper (set_cases xs n p k q is)
  where
    deeper : (slice_get xs k ≡ Some (Some q)) ⊎ ((k ≡ n) × (p ≡ q)) →
        (slice_get (x ∷ xs) (suc k) ≡ Some (Some q)) ⊎ ((suc k ≡ suc n) × (p ≡ q))
    deeper (inl h) = inl h
    deeper (inr h) = inr (ap suc h.0, h.1)

assigned_cases : (xs : List (Option ℕ)) (meaning : Meaning) (p : ℕ) (other : Meaning) (q : ℕ) →
    KeepsAssigned (with_assigned xs meaning p) other q →
    KeepsAssigned xs other q ⊎ ((n : ℕ) × (meaning ≡ code.TypeAt n) × (other ≡ code.TypeAt n) × (p ≡ q))
assigned_cases xs (code.TypeAt n) p (code.TypeAt k) q is = by (set_cases xs n p k q is)
  where
    by : (slice_get xs k ≡ Some (Some q)) ⊎ ((k ≡ n) × (p ≡ q)) → (slice_get xs k ≡ Some (Some q))
        ⊎ ((l : ℕ) × (code.TypeAt n ≡ code.TypeAt l) × (code.TypeAt k ≡ code.TypeAt l) × (p ≡ q))
    by (inl h) = inl h
    by (inr h) = inr (n, refl, ap (λ x. code.TypeAt x) h.0, h.1)
assigned_cases xs (code.TypeAt n) p (code.ValueAt k) q is = elim is [ ]
assigned_cases xs (code.TypeAt n) p (code.Standard s) q is = elim is [ ]
assigned_cases xs (code.TypeAt n) p code.Nothing q is = elim is [ ]
assigned_cases xs (code.ValueAt n) p other q is = inl is
assigned_cases xs (code.Standard s) p other q is = inl is
assigned_cases xs code.Nothing p other q is = inl is

same_standard : {ms : List ModuleTerm} {linked : Linked} {table : TypeTable} {place : ℕ} (one other : Token) →
    one.text ≡ other.text → IsTypeAt ms linked (Standard one) table place →
    IsTypeAt ms linked (Standard other) table place
same_standard {ms} {linked} {table} {place} one other same h = record {
  item = h.item;
  stands = h.stands;
  told = record {
    filled = subst (λ t. TellsFilled ms (linked_arcs linked) (standard_meaning (standard_type t)) h.item.syntax) same
        h.told.filled;
    called = h.told.called ∙ ap (λ t. behind_module standard_module_name t) same;
  };
}

module _ {ms : List ModuleTerm} {linked : Linked} {old new : TypeTable} (known : IsTypeTable ms linked old)
    (grows : Grows old new) where
  kept_before : (named : NamedMeaning) (meaning : Meaning) (place : ℕ) → IsKept old named meaning place →
      Means ms meaning (linked_meaning ms named) → IsTypeAt ms linked named new place
  kept_before named meaning place is means = type_stays grows (known.kept named meaning place is means)

  assigned_added : (m i : ℕ) (meaning : Meaning) (place : ℕ) → IsTypeAt ms linked (Assigned m i) new place →
      Means ms meaning (assignment_meaning ms m i) →
      new.assigned.items ≡ with_assigned old.assigned.items meaning place → (k j : ℕ) (other : Meaning) (q : ℕ) →
      KeepsAssigned new.assigned.items other q → Means ms other (assignment_meaning ms k j) →
      IsTypeAt ms linked (Assigned k j) new q
  assigned_added m i meaning place here means is k j other q kept its =
      by (assigned_cases old.assigned.items meaning place other q
      (subst (λ xs. KeepsAssigned xs other q) is kept))
    where
      by : KeepsAssigned old.assigned.items other q
          ⊎ ((n : ℕ) × (meaning ≡ code.TypeAt n) × (other ≡ code.TypeAt n) × (place ≡ q)) →
          IsTypeAt ms linked (Assigned k j) new q
      by (inl h) = kept_before (Assigned k j) other q h its
      by (inr h) =
          let same = one_assignment ms h.0 m i k j (subst (λ x. Means ms x (assignment_meaning ms m i)) h.1 means)
          (subst (λ x. Means ms x (assignment_meaning ms k j)) h.2 its) in
          subst (λ a. IsTypeAt ms linked (Assigned a j) new q) same.0
          (subst (λ b. IsTypeAt ms linked (Assigned m b) new q) same.1
          (subst (λ p. IsTypeAt ms linked (Assigned m i) new p) h.3 here))

  standard_added : (name : Token) (place : ℕ) → IsTypeAt ms linked (Standard name) new place →
      new.standard.items ≡ old.standard.items ++ record { name = name.text; place = place } ∷ [] →
      (other : Token) (meaning : Meaning) (q : ℕ) → KeepsStandard new.standard.items other.text q →
      Means ms meaning (linked_meaning ms (Standard other)) → IsTypeAt ms linked (Standard other) new q
  standard_added name place here is other meaning q kept its =
      by (get_cases old.standard.items (record { name = name.text; place = place }) kept.k kept.entry
      (subst (λ xs. slice_get xs kept.k ≡ Some kept.entry) is kept.stands))
    where
      by : (slice_get old.standard.items kept.k ≡ Some kept.entry)
          ⊎ ((kept.k ≡ length old.standard.items) × (record { name = name.text; place = place } ≡ kept.entry)) →
          IsTypeAt ms linked (Standard other) new q
      by (inl h) = kept_before (Standard other) meaning q
          (record { k = kept.k; entry = kept.entry; stands = h; called = kept.called; is = kept.is }) its
      by (inr h) = same_standard name other
          (ap (λ (x : StandardPlace). x.name) h.1 ∙ kept.called)
          (subst (λ p. IsTypeAt ms linked (Standard name) new p) (ap (λ (x : StandardPlace). x.place) h.1 ∙ kept.is)
          here)

  pub table_added : (named : NamedMeaning) (meaning : Meaning) (place : ℕ) → IsTypeAt ms linked named new place →
      Means ms meaning (linked_meaning ms named) → KeepsPlace old new named meaning place → IsTypeTable ms linked new
  table_added (Assigned m i) meaning place here means is = record { kept = by }
    where
      by : (named : NamedMeaning) (other : Meaning) (q : ℕ) → IsKept new named other q →
          Means ms other (linked_meaning ms named) → IsTypeAt ms linked named new q
      by (Assigned k j) other q kept its = assigned_added m i meaning place here means is.0 k j other q kept its
      by (Standard name) other q kept its =
          kept_before (Standard name) other q (subst (λ xs. KeepsStandard xs name.text q) is.1 kept) its
  table_added (Standard name) meaning place here means is = record { kept = by }
    where
      by : (named : NamedMeaning) (other : Meaning) (q : ℕ) → IsKept new named other q →
          Means ms other (linked_meaning ms named) → IsTypeAt ms linked named new q
      by (Assigned k j) other q kept its =
          kept_before (Assigned k j) other q (subst (λ xs. KeepsAssigned xs other q) is.0 kept) its
      by (Standard t) other q kept its = standard_added name place here is.1 t other q kept its

-- ---- types that are named one after the other

pub names_none : {ms : List ModuleTerm} {linked : Linked} (Texts : TextSet) (table : TypeTable)
    (before : Option TextPlace) →
    IsTypeTable ms linked table → NamesTypes ms linked Texts table table before before
names_none Texts table before known = record {
  table = known;
  grows = grows_none table;
  noted = none_noted Texts before;
}

pub names_on : {ms : List ModuleTerm} {linked : Linked} (Texts : TextSet) {old between new : TypeTable}
    {before mid after : Option TextPlace} → NamesTypes ms linked Texts old between before mid →
    NamesTypes ms linked Texts between new mid after → NamesTypes ms linked Texts old new before after
names_on Texts p q = record {
  table = q.table;
  grows = grows_on p.grows q.grows;
  noted = both_noted Texts p.noted q.noted;
}

pub names_by : {ms : List ModuleTerm} {linked : Linked} (One Other : TextSet) {old new : TypeTable}
    {before after : Option TextPlace} → ((place : TextPlace) → One place → Other place) →
    NamesTypes ms linked One old new before after → NamesTypes ms linked Other old new before after
names_by One Other to h = record { table = h.table; grows = h.grows; noted = noted_by One Other to h.noted }

-- ---- the element at a place

pub got_any : {X : Type 0} (xs : List X) (i : ℕ) (d : X) → i < length xs → slice_get xs i ≡ Some (get_or xs i d)
got_any [] i d h = absurd (omega arith)
got_any (x ∷ xs) zero d h = refl
got_any (x ∷ xs) (suc i) d h = got_any xs i d (omega arith)
