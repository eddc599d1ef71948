-- OwnLaws: what a module itself assigns to a name stands there under a number, and which names assignments have.
use Rattle.std.proofs.Common.{◌≡◌, ◌⊎◌, ◌∙◌, ◌+◌, ℕ, zero, suc, List, [], ◌∷◌, Bool, true, false, Option, None, Some}
use Rattle.std.proofs.Common.{refl, sym, ap, arith, inl, inr}
use Rattle.std.specs.Cmp.Lexicographic.{same_text}
use Rattle.std.specs.Prelude.{slice_get, if◌then◌else◌}
use Rattle.std.proofs.Math.Path.{subst}
use Rattle.std.proofs.lemmas.Bool.{false≢true}
use Rattle.std.proofs.lemmas.Option.{none-some, same_Some}
use Rattle.token_grammar.specs.Form.{Tree}
use Rattle.asn1_names.specs.AssignmentNumbers.{Numbered, numbered_at}
use Rattle.asn1_names.specs.ModuleTerms.{AssignedTerm, AssignmentTerm, ModuleTerm, NumberTerm, TypeTerm}
use Rattle.asn1_names.specs.ModuleTerms.AssignedTerm.{AssignsType, AssignsValue}
use Rattle.asn1_names.specs.NameMeaning.{Meaning, assigned_in, assigned_meaning, first_assignment, is_called}
use Rattle.asn1_names.specs.NameMeaning.Meaning.{ValueAt, Nothing}
use Rattle.asn1_numbers.proofs.StandingLaws.{number_there, stands_at}

-- ---- the first assignment of a name among some

pub record FirstNamed (name : List ℕ) (m i : ℕ) (xs : List AssignmentTerm) : Type 0 where
  pub k : ℕ
  pub first : AssignmentTerm
  pub at : slice_get xs k ≡ Some first
  pub called : is_called name first.name ≡ true
  pub means : first_assignment name m i xs ≡ assigned_meaning m (i + k) first.assigned

pub record NoneNamed (name : List ℕ) (m i : ℕ) (xs : List AssignmentTerm) : Type 0 where
  pub means : first_assignment name m i xs ≡ Nothing
  pub none_called : (k : ℕ) (x : AssignmentTerm) → slice_get xs k ≡ Some x → is_called name x.name ≡ true → ⊥

first_by : (name : List ℕ) (m i : ℕ) (x : AssignmentTerm) (xs : List AssignmentTerm) (here : Bool) →
    is_called name x.name ≡ here →
    (if here then assigned_meaning m i x.assigned else first_assignment name m (i + 1) xs) ≡
    first_assignment name m i (x ∷ xs) → NoneNamed name m (i + 1) xs ⊎ FirstNamed name m (i + 1) xs →
    NoneNamed name m i (x ∷ xs) ⊎ FirstNamed name m i (x ∷ xs)
first_by name m i x xs true is whole rest = inr (record {
  k = 0;
  first = x;
  at = refl;
  called = is;
  means = sym whole ∙ ap (λ n. assigned_meaning m n x.assigned) (omega arith);
})
first_by name m i x xs false is whole (inl rest) = inl (record {
  means = sym whole ∙ rest.means;
  none_called = none;
})
  where
    none : (k : ℕ) (y : AssignmentTerm) → slice_get (x ∷ xs) k ≡ Some y → is_called name y.name ≡ true → ⊥
    none zero y at called = false≢true (sym is ∙ ap (λ (z : AssignmentTerm). is_called name z.name) (same_Some x y at)
        ∙ called)
    none (suc k) y at called = rest.none_called k y at called
first_by name m i x xs false is whole (inr rest) = inr (record {
  k = suc rest.k;
  first = rest.first;
  at = rest.at;
  called = rest.called;
  means = sym whole ∙ rest.means ∙ ap (λ n. assigned_meaning m n rest.first.assigned) (omega arith);
})

pub first_named : (name : List ℕ) (m i : ℕ) (xs : List AssignmentTerm) →
    NoneNamed name m i xs ⊎ FirstNamed name m i xs
unfolding first_assignment
first_named name m i [] = inl (record { means = refl; none_called = λ k x at called. none-some x at })
first_named name m i (x ∷ xs) =
    first_by name m i x xs (is_called name x.name) refl refl (first_named name m (i + 1) xs)

-- ---- what a module assigns

-- the assignment with a number is the first of its name in its module
pub record OwnNamed (ms : List ModuleTerm) (m : ℕ) (name : List ℕ) : Type 0 where
  pub k : ℕ
  pub numbered : Numbered
  pub at : numbered_at ms k ≡ Some numbered
  pub in_module : numbered.in_module ≡ m
  pub called : is_called name numbered.assignment.name ≡ true
  pub means : assigned_in ms m name ≡ assigned_meaning m numbered.place numbered.assignment.assigned

pub record OwnNone (ms : List ModuleTerm) (m : ℕ) (name : List ℕ) : Type 0 where
  pub means : assigned_in ms m name ≡ Nothing
  pub none_called : (k : ℕ) (x : Numbered) → numbered_at ms k ≡ Some x → x.in_module ≡ m →
      is_called name x.assignment.name ≡ true → ⊥

abbrev meaning_in : ℕ → List ℕ → Option ModuleTerm → Meaning
meaning_in m name None = Nothing
meaning_in m name (Some y) = first_assignment name m 0 y.assignments

meaning_is : (ms : List ModuleTerm) (m : ℕ) (name : List ℕ) (found : Option ModuleTerm) → slice_get ms m ≡ found →
    assigned_in ms m name ≡ meaning_in m name found
unfolding assigned_in
meaning_is ms m name found at = ap (λ f. elim f as (λ _. Meaning) [
  | None ↦ Nothing
  | Some y ↦ first_assignment name m 0 y.assignments
]) at ∙ by found
  where
    by : (f : Option ModuleTerm) → (elim f as (λ _. Meaning) [
      | None ↦ Nothing
      | Some y ↦ first_assignment name m 0 y.assignments
    ]) ≡ meaning_in m name f
    by None = refl
    by (Some y) = refl

-- where an assignment with a number stands
pub stands_in : (ms : List ModuleTerm) (k : ℕ) (x : Numbered) → numbered_at ms k ≡ Some x →
    (home : ModuleTerm) × (slice_get ms x.in_module ≡ Some home)
    × (slice_get home.assignments x.place ≡ Some x.assignment)
stands_in ms k x at =
    let s = stands_at ms k x at in
    let d : s.d ≡ x.in_module = (let m = s.module_is in omega (arith, m)) in
    (s.home, subst (λ z. slice_get ms z ≡ Some s.home) d s.home_at, s.stands)

own_first : (ms : List ModuleTerm) (m : ℕ) (name : List ℕ) (y : ModuleTerm) → slice_get ms m ≡ Some y →
    FirstNamed name m 0 y.assignments → OwnNamed ms m name
own_first ms m name y at first =
    let number = number_there ms m first.k y first.first at first.at in record {
      k = number.0;
      numbered = record { in_module = m; place = first.k; assignment = first.first };
      at = number.1;
      in_module = refl;
      called = first.called;
      means = meaning_is ms m name (Some y) at ∙ first.means ∙
          ap (λ n. assigned_meaning m n first.first.assigned) (omega arith);
    }

own_none : (ms : List ModuleTerm) (m : ℕ) (name : List ℕ) (y : ModuleTerm) → slice_get ms m ≡ Some y →
    NoneNamed name m 0 y.assignments → OwnNone ms m name
own_none ms m name y at none = record {
  means = meaning_is ms m name (Some y) at ∙ none.means;
  none_called = λ k x there home called.
      let s = stands_in ms k x there in
      let same : s.0 ≡ y = same_Some s.0 y (sym s.1 ∙ ap (slice_get ms) home ∙ at) in
      none.none_called x.place x.assignment
      (subst (λ z. slice_get z.assignments x.place ≡ Some x.assignment) same s.2) called;
}

no_module : (ms : List ModuleTerm) (m : ℕ) (name : List ℕ) → slice_get ms m ≡ None → OwnNone ms m name
no_module ms m name at = record {
  means = meaning_is ms m name None at;
  none_called = λ k x there home called.
      let s = stands_in ms k x there in none-some s.0 (sym at ∙ ap (slice_get ms) (sym home) ∙ s.1);
}

pub own_named : (ms : List ModuleTerm) (m : ℕ) (name : List ℕ) → OwnNone ms m name ⊎ OwnNamed ms m name
own_named ms m name = by (slice_get ms m) refl
  where
    in_module : (y : ModuleTerm) → slice_get ms m ≡ Some y →
        NoneNamed name m 0 y.assignments ⊎ FirstNamed name m 0 y.assignments → OwnNone ms m name ⊎ OwnNamed ms m name
    in_module y at (inl none) = inl (own_none ms m name y at none)
    in_module y at (inr first) = inr (own_first ms m name y at first)

    by : (found : Option ModuleTerm) → slice_get ms m ≡ found → OwnNone ms m name ⊎ OwnNamed ms m name
    by None at = inl (no_module ms m name at)
    by (Some y) at = in_module y at (first_named name m 0 y.assignments)

-- ---- a value that a module assigns to a name

pub record OwnValue (ms : List ModuleTerm) (m i : ℕ) (name : List ℕ) (of : TypeTerm) (number : Option NumberTerm)
    (text : Tree) : Type 0 where
  pub k : ℕ
  pub numbered : Numbered
  pub at : numbered_at ms k ≡ Some numbered
  pub in_module : numbered.in_module ≡ m
  pub place : numbered.place ≡ i
  pub named : numbered.assignment.name.text ≡ name
  pub assigns : numbered.assignment.assigned ≡ AssignsValue of number text

value_parts : (m p v i : ℕ) (assigned : AssignedTerm) (of : TypeTerm) (number : Option NumberTerm) (text : Tree) →
    assigned_meaning m p assigned ≡ ValueAt v i of number text →
    (p ≡ i) × (assigned ≡ AssignsValue of number text) × (m ≡ v)
value_parts m p v i (AssignsType own) of number text h = absurd (cc)
value_parts m p v i (AssignsValue own stated said) of number text h = (cc, cc, cc)

nothing_value : {P : Type 0} (m i : ℕ) (of : TypeTerm) (number : Option NumberTerm) (text : Tree) →
    Nothing ≡ ValueAt m i of number text → P
nothing_value m i of number text h = absurd (cc)

pub own_value : (ms : List ModuleTerm) (m v i : ℕ) (name : List ℕ) (of : TypeTerm) (number : Option NumberTerm)
    (text : Tree) → assigned_in ms m name ≡ ValueAt v i of number text →
    (v ≡ m) × OwnValue ms m i name of number text
own_value ms m v i name of number text h = by (own_named ms m name)
  where
    by : OwnNone ms m name ⊎ OwnNamed ms m name → (v ≡ m) × OwnValue ms m i name of number text
    by (inl none) = nothing_value v i of number text (sym none.means ∙ h)
    by (inr own) =
        let parts = value_parts m own.numbered.place v i own.numbered.assignment.assigned of number text
        (sym own.means ∙ h) in (
          sym parts.2,
          record {
            k = own.k;
            numbered = own.numbered;
            at = own.at;
            in_module = own.in_module;
            place = parts.0;
            named = same_text own.numbered.assignment.name.text name (sym own.called);
            assigns = parts.1;
          },
        )

-- an assignment of a name gives it some meaning in its module
assigns_some : (m p : ℕ) (assigned : AssignedTerm) → assigned_meaning m p assigned ≡ Nothing → ⊥
assigns_some m p (AssignsType of) h = absurd (cc)
assigns_some m p (AssignsValue of number text) h = absurd (cc)

pub named_means : (ms : List ModuleTerm) (k : ℕ) (x : Numbered) (name : List ℕ) → numbered_at ms k ≡ Some x →
    is_called name x.assignment.name ≡ true → OwnNamed ms x.in_module name
named_means ms k x name at called = by (own_named ms x.in_module name)
  where
    by : OwnNone ms x.in_module name ⊎ OwnNamed ms x.in_module name → OwnNamed ms x.in_module name
    by (inl none) = absurd (none.none_called k x at refl called)
    by (inr own) = own

pub not_nothing : (ms : List ModuleTerm) (m : ℕ) (name : List ℕ) → OwnNamed ms m name →
    assigned_in ms m name ≡ Nothing → ⊥
not_nothing ms m name own h =
    assigns_some m own.numbered.place own.numbered.assignment.assigned (sym own.means ∙ h)
