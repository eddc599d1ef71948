-- MeantLaws: a name that means an assigned type means one that stands there.
use Rattle.std.specs.Prelude.{◌≡◌, ℕ, suc, ◌+◌, List, [], ◌∷◌, Bool, true, false, Option, None, Some, refl}
use Rattle.std.specs.Prelude.{slice_get, if◌then◌else◌}
use Rattle.std.proofs.Common.{ap, arith, sym, subst, ◌∙◌}
use Rattle.token_grammar.specs.declared.token.Token.{Token}
use Rattle.asn1_names.specs.AssignmentNumbers.{Numbered, numbered_at}
use Rattle.asn1_names.specs.ModuleTerms.{AssignedTerm, AssignmentTerm, ModuleTerm, TypeTerm}
use Rattle.asn1_names.specs.ModuleTerms.AssignedTerm.{AssignsType, AssignsValue}
use Rattle.asn1_names.specs.NameMeaning.{Meaning, ModuleMeaning, assigned_in, assigned_meaning, assigned_type}
use Rattle.asn1_names.specs.NameMeaning.{first_assignment, import_of, imported_meaning, is_called, meaning_within}
use Rattle.asn1_names.specs.NameMeaning.{module_meaning, name_meaning, own_or_imported, reference_meaning}
use Rattle.asn1_names.specs.NameMeaning.{standard_meaning, type_at}
use Rattle.asn1_names.specs.NameMeaning.Meaning.{TypeAt, ValueAt, StandardType, Nothing}
use Rattle.asn1_names.specs.NameMeaning.ModuleMeaning.{Standard, ModuleAt, NoModule}
use Rattle.asn1_names.specs.StandardModule.{standard_type}
use Rattle.asn1_numbers.proofs.StandingLaws.{number_there, stands_at}

-- ---- what stands at a place

pub type_there : (ms : List ModuleTerm) (m i : ℕ) (y : ModuleTerm) (found : Option AssignmentTerm) →
    slice_get ms m ≡ Some y → slice_get y.assignments i ≡ found → type_at ms m i ≡ assigned_type found
unfolding type_at
type_there ms m i y found h g = ap (λ f. elim f as (λ _. Option TypeTerm) [
  | None ↦ None
  | Some x ↦ assigned_type (slice_get x.assignments i)
]) h ∙ ap assigned_type g

-- the type of the assignment with a number
pub numbered_type : (ms : List ModuleTerm) (k : ℕ) (x : Numbered) → numbered_at ms k ≡ Some x →
    type_at ms x.in_module x.place ≡ assigned_type (Some x.assignment)
numbered_type ms k x at =
    let s = stands_at ms k x at in
    let d : s.d ≡ x.in_module = (let m = s.module_is in omega (arith, m)) in
    type_there ms x.in_module x.place s.home (Some x.assignment)
    (subst (λ z. slice_get ms z ≡ Some s.home) d s.home_at) s.stands

assigns_by : (a : AssignmentTerm) (assigned : AssignedTerm) (of : TypeTerm) → a.assigned ≡ assigned →
    assigned_type (Some a) ≡ Some of → a.assigned ≡ AssignsType of
assigns_by a (AssignsType own) of is e = is ∙ (
    let same : Some own ≡ Some of = sym (ap (λ z. elim z as (λ _. Option TypeTerm) [
      | AssignsType t ↦ Some t
      | AssignsValue t number text ↦ None
    ]) is) ∙ e in
    ap AssignsType (cc))
assigns_by a (AssignsValue own number text) of is e = absurd (
    let other : None ≡ Some of = sym (ap (λ z. elim z as (λ _. Option TypeTerm) [
      | AssignsType t ↦ Some t
      | AssignsValue t number text ↦ None
    ]) is) ∙ e in
    cc)

pub assigns_type : (a : AssignmentTerm) (of : TypeTerm) → assigned_type (Some a) ≡ Some of →
    a.assigned ≡ AssignsType of
assigns_type a of e = assigns_by a a.assigned of refl e

-- an assigned type has a number
pub placed_number : (ms : List ModuleTerm) (m i : ℕ) (of : TypeTerm) → type_at ms m i ≡ Some of →
    (k : ℕ) × (x : Numbered) × (numbered_at ms k ≡ Some x) × (x.in_module ≡ m) × (x.place ≡ i)
unfolding type_at
placed_number ms m i of h = by (slice_get ms m) refl h
  where
    in_module : (y : ModuleTerm) (found : Option AssignmentTerm) → slice_get ms m ≡ Some y →
        slice_get y.assignments i ≡ found → assigned_type found ≡ Some of →
        (k : ℕ) × (x : Numbered) × (numbered_at ms k ≡ Some x) × (x.in_module ≡ m) × (x.place ≡ i)
    in_module y None at is e = absurd (cc)
    in_module y (Some a) at is e =
        let number = number_there ms m i y a at is in (
          number.0,
          record { in_module = m; place = i; assignment = a },
          number.1,
          refl,
          refl,
        )

    by : (found : Option ModuleTerm) → slice_get ms m ≡ found → (elim found as (λ _. Option TypeTerm) [
      | None ↦ None
      | Some x ↦ assigned_type (slice_get x.assignments i)
    ]) ≡ Some of → (k : ℕ) × (x : Numbered) × (numbered_at ms k ≡ Some x) × (x.in_module ≡ m) × (x.place ≡ i)
    by None at e = absurd (cc)
    by (Some y) at e = in_module y (slice_get y.assignments i) at refl e

-- ---- a name means what stands there

first_type : (name : List ℕ) (m i v j : ℕ) (of : TypeTerm) (xs : List AssignmentTerm) →
    first_assignment name m i xs ≡ TypeAt v j of →
    (k : ℕ) × (v ≡ m) × (j ≡ i + k) × (assigned_type (slice_get xs k) ≡ Some of)
unfolding first_assignment
first_type name m i v j of [] h = absurd (cc)
first_type name m i v j of (x ∷ xs) h =
    by (is_called name x.name) (λ e. first_type name m (i + 1) v j of xs e) h
  where
    here : (assigned : AssignedTerm) → x.assigned ≡ assigned → assigned_meaning m i assigned ≡ TypeAt v j of →
        (k : ℕ) × (v ≡ m) × (j ≡ i + k) × (assigned_type (slice_get (x ∷ xs) k) ≡ Some of)
    here (AssignsType own) is e =
        let place : j ≡ i = cc in
        let same : own ≡ of = cc in (
          0,
          cc,
          place ∙ omega arith,
          ap (λ z. elim z as (λ _. Option TypeTerm) [
            | AssignsType t ↦ Some t
            | AssignsValue t number text ↦ None
          ]) is ∙ ap Some same,
        )
    here (AssignsValue own number text) is e = absurd (cc)

    behind : (k : ℕ) × (v ≡ m) × (j ≡ (i + 1) + k) × (assigned_type (slice_get xs k) ≡ Some of) →
        (k : ℕ) × (v ≡ m) × (j ≡ i + k) × (assigned_type (slice_get (x ∷ xs) k) ≡ Some of)
    behind rest = (suc rest.0, rest.1, (let place = rest.2 in omega (arith, place)), rest.3)

    by : (b : Bool) → (first_assignment name m (i + 1) xs ≡ TypeAt v j of →
        (k : ℕ) × (v ≡ m) × (j ≡ (i + 1) + k) × (assigned_type (slice_get xs k) ≡ Some of)) →
        (if b then assigned_meaning m i x.assigned else first_assignment name m (i + 1) xs) ≡ TypeAt v j of →
        (k : ℕ) × (v ≡ m) × (j ≡ i + k) × (assigned_type (slice_get (x ∷ xs) k) ≡ Some of)
    by true rest e = here x.assigned refl e
    by false rest e = behind (rest e)

own_type : (ms : List ModuleTerm) (m v j : ℕ) (name : List ℕ) (of : TypeTerm) →
    assigned_in ms m name ≡ TypeAt v j of → type_at ms v j ≡ Some of
unfolding assigned_in
own_type ms m v j name of h = by (slice_get ms m) refl h
  where
    there : (y : ModuleTerm) → slice_get ms m ≡ Some y → first_assignment name m 0 y.assignments ≡ TypeAt v j of →
        type_at ms v j ≡ Some of
    there y at e =
        let found = first_type name m 0 v j of y.assignments e in
        let place : j ≡ found.0 = (let p = found.2 in omega (arith, p)) in
        ap (λ a. type_at ms a j) found.1 ∙ ap (type_at ms m) place ∙
        type_there ms m found.0 y (slice_get y.assignments found.0) at refl ∙ found.3

    by : (found : Option ModuleTerm) → slice_get ms m ≡ found → (elim found as (λ _. Meaning) [
      | None ↦ Nothing
      | Some x ↦ first_assignment name m 0 x.assignments
    ]) ≡ TypeAt v j of → type_at ms v j ≡ Some of
    by None at e = absurd (cc)
    by (Some y) at e = there y at e

not_standard : (found : Option _) (v j : ℕ) (of : TypeTerm) → standard_meaning found ≡ TypeAt v j of → ⊥
not_standard None v j of h = absurd (cc)
not_standard (Some syntax) v j of h = absurd (cc)

within_type : (ms : List ModuleTerm) (within : ModuleMeaning) (v j : ℕ) (name : List ℕ) (of : TypeTerm) →
    meaning_within ms within name ≡ TypeAt v j of → type_at ms v j ≡ Some of
unfolding meaning_within
within_type ms Standard v j name of h = absurd (not_standard (standard_type name) v j of h)
within_type ms (ModuleAt m) v j name of h = own_type ms m v j name of h
within_type ms NoModule v j name of h = absurd (cc)

imported_type : (ms : List ModuleTerm) (name : List ℕ) (from : Option Token) (v j : ℕ) (of : TypeTerm) →
    imported_meaning ms name from ≡ TypeAt v j of → type_at ms v j ≡ Some of
unfolding imported_meaning
imported_type ms name None v j of h = absurd (cc)
imported_type ms name (Some x) v j of h = within_type ms (module_meaning ms x.text) v j name of h

name_type : (ms : List ModuleTerm) (m v j : ℕ) (name : List ℕ) (of : TypeTerm) →
    name_meaning ms m name ≡ TypeAt v j of → type_at ms v j ≡ Some of
unfolding name_meaning
name_type ms m v j name of h = by (assigned_in ms m name) refl h
  where
    by : (own : Meaning) → assigned_in ms m name ≡ own →
        own_or_imported own (imported_meaning ms name (import_of ms m name)) ≡ TypeAt v j of →
        type_at ms v j ≡ Some of
    by (TypeAt w i its) is e = own_type ms m v j name of (is ∙ e)
    by (ValueAt w i its number text) is e = absurd (cc)
    by (StandardType syntax) is e = absurd (cc)
    by Nothing is e = imported_type ms name (import_of ms m name) v j of e

-- a name that means an assigned type
pub reference_type : (ms : List ModuleTerm) (m v j : ℕ) (module_name : Option Token) (name : Token) (of : TypeTerm) →
    reference_meaning ms m module_name name ≡ TypeAt v j of → type_at ms v j ≡ Some of
unfolding reference_meaning
reference_type ms m v j None name of h = name_type ms m v j name.text of h
reference_type ms m v j (Some x) name of h = within_type ms (module_meaning ms x.text) v j name.text of h
