-- AssignmentLaws: the first fault of an assignment, of several, and of the imports of modules (docs/PROFILE.md,
-- section 11).
use Rattle.std.proofs.Common.{◌≡◌, ◌⊎◌, ◌∙◌, ◌+◌, ◌<◌, ℕ, zero, suc, List, [], ◌∷◌, Bool, true, false, Option}
use Rattle.std.proofs.Common.{None, Some, refl, ap, sym, inl, inr}
use Rattle.std.proofs.Common.{MatchOption, arith, get_or, length, map, option_map, slice_get}
use Rattle.std.specs.Prelude.{Err, IfOk, IsFalse, IsTrue, Ok, Result}
use Rattle.std.specs.declared.alloc.AllocError.{AllocError}
use Rattle.std.proofs.Math.Path.{subst}
use Rattle.std.proofs.lemmas.Bool.{cases_lt}
use Rattle.std.proofs.lemmas.Option.{slice_get_read}
use Rattle.std.specs.Borrow.{Bor}
use Rattle.std.specs.Option.{option_copied}
use Rattle.asn1_syntax.specs.declared.module.Module.{Module}
use Rattle.asn1_names.specs.declared.first_fault.ModuleFault.{ModuleFault}
use Rattle.asn1_names.specs.declared.refusal.UnsupportedKind.TheVariants.{TooManyNodes}
use Rattle.asn1_names.specs.AssignmentNumbers.{Numbered, numbered_at}
use Rattle.asn1_names.specs.CodeMeanings.{IsAssignment}
use Rattle.asn1_names.specs.Containment.{IsCyclic}
use Rattle.asn1_names.specs.FirstModuleFault.{FaultKind}
use Rattle.asn1_names.specs.FirstModuleFault.FaultKind.{NotSupported, TypeCyclic}
use Rattle.asn1_names.specs.ModuleTerms.{AssignmentTerm, ModuleTerm, TypeTerm}
use Rattle.asn1_names.specs.Occurrences.{first_word, type_assigned}
use Rattle.asn1_names.specs.TermViews.{module_term, module_terms}
use Rattle.asn1_names.proofs.TableAnswers.{some_is}
use Rattle.asn1_numbers.specs.NumberedTypes.{IsCyclicNumber}
use Rattle.asn1_resolve.specs.AllFaults.{AssignmentFaults, Below, FaultsAt, ImportFaults, ImportFaultsAt}
use Rattle.asn1_resolve.specs.FaultSets.{AnyOf, Either, In, IsEarlier, IsFirstOf, OneFault}
use Rattle.asn1_resolve.specs.ToldFaults.{IsCounted}
use Rattle.asn1_resolve.specs.TypeFaults.{IsFew, IsLarge, OwnFaults}
use Rattle.asn1_resolve.specs.TypeFaults.{TypeFaults}
use Rattle.asn1_resolve.proofs.FirstFaults.{both, either_both, first_by, in_by}
use Rattle.asn1_resolve.proofs.NodeLaws.{not_both_sizes}
use Rattle.asn1_resolve.proofs.PlaceLaws.{numbered_in}

-- ---- tags that are told where one thing is so are told where another is

own_told : (One Other : Type 0) → (One → Other) → (ms : List ModuleTerm) (m : ℕ) (of : TypeTerm) (token : ℕ)
    (kind : FaultKind) → OwnFaults One ms m of token kind → OwnFaults Other ms m of token kind
own_told One Other so ms m of token kind (inl (inl tags)) = inl (inl ((so tags.0.0, tags.0.1), tags.1, tags.2))
own_told One Other so ms m of token kind (inl (inr constraints)) = inl (inr constraints)
own_told One Other so ms m of token kind (inr head) = inr head

type_told : (One Other : Type 0) → (One → Other) → (ms : List ModuleTerm) (m : ℕ) (of : TypeTerm) (token : ℕ)
    (kind : FaultKind) → TypeFaults One ms m of token kind → TypeFaults Other ms m of token kind
type_told One Other so ms m of token kind fault =
    (fault.0, fault.1, own_told One Other so ms m fault.0 token kind fault.2)

one_told : (One Other : Type 0) → (One → Other) → (at : ℕ) (its token : _) (kind : FaultKind) →
    OneFault One at its token kind → OneFault Other at its token kind
one_told One Other so at its token kind fault = (so fault.0, fault.1, fault.2)

few_is : (ms : List ModuleTerm) (m : ℕ) (of : TypeTerm) (few : Bool) → (IsFalse few → IsLarge ms m of) → IsFew ms m of →
    IsTrue few
few_is ms m of true large h = refl
few_is ms m of false large h = absurd (not_both_sizes h (large refl))

large_is : (ms : List ModuleTerm) (m : ℕ) (of : TypeTerm) (few : Bool) → (IsTrue few → IsFew ms m of) →
    IsLarge ms m of → IsFalse few
large_is ms m of true small h = absurd (not_both_sizes (small refl) h)
large_is ms m of false small h = refl

-- ---- an assignment

-- what is known of an assignment with a number gives its first fault
abbrev Leads : List ModuleTerm → ℕ → ℕ → Numbered → Bool → Option ModuleFault → Option ModuleFault →
    Option ModuleFault → Option ModuleFault → ℕ → AssignmentTerm → TypeTerm → Type 0
Leads ms document number x few nodes cycle within result m a of =
    (IsTrue few → IsFew ms m of) → (IsFalse few → IsLarge ms m of) →
    IsFirstOf (In document (OneFault (IsFalse few) (first_word of).at (NotSupported TooManyNodes))) nodes →
    IsFirstOf (In document (OneFault (IsCyclicNumber ms number) a.name.at TypeCyclic)) cycle →
    IsFirstOf (In document (TypeFaults (IsTrue few) ms m of)) within →
    IsFirstOf (In document (AssignmentFaults ms x)) result

leads : (ms : List ModuleTerm) (document number : ℕ) (x : Numbered) (few : Bool)
    (nodes cycle between within result : Option ModuleFault) → numbered_at ms number ≡ Some x →
    IsEarlier nodes cycle between → IsEarlier between within result →
    Leads ms document number x few nodes cycle within result x.in_module x.assignment
    (type_assigned x.assignment.assigned)
leads ms document number x few nodes cycle between within result at h g small large p q r =
    let m = x.in_module in
    let of = type_assigned x.assignment.assigned in
    let Nodes = OneFault (IsLarge ms m of) (first_word of).at (NotSupported TooManyNodes) in
    let Cycle = OneFault (IsCyclic ms m x.place) x.assignment.name.at TypeCyclic in
    either_both (Either Nodes Cycle) (TypeFaults (IsFew ms m of) ms m of) g
    (either_both Nodes Cycle h
    (in_by (OneFault (IsFalse few) (first_word of).at (NotSupported TooManyNodes)) Nodes (
      one_told (IsFalse few) (IsLarge ms m of) large (first_word of).at (NotSupported TooManyNodes),
      one_told (IsLarge ms m of) (IsFalse few) (large_is ms m of few small) (first_word of).at (NotSupported
          TooManyNodes),
    ) p)
    (in_by (OneFault (IsCyclicNumber ms number) x.assignment.name.at TypeCyclic) Cycle (
      one_told (IsCyclicNumber ms number) (IsCyclic ms m x.place)
          (λ c. subst (λ (y : Numbered). IsCyclic ms y.in_module y.place) (some_is c.numbered x (sym c.at ∙ at))
          c.cyclic)
          x.assignment.name.at TypeCyclic,
      one_told (IsCyclic ms m x.place) (IsCyclicNumber ms number)
          (λ c. record { numbered = x; at = at; cyclic = c }) x.assignment.name.at TypeCyclic,
    ) q))
    (in_by (TypeFaults (IsTrue few) ms m of) (TypeFaults (IsFew ms m of) ms m of) (
      type_told (IsTrue few) (IsFew ms m of) small ms m of,
      type_told (IsFew ms m of) (IsTrue few) (few_is ms m of few large) ms m of,
    ) r)

pub assigned_judged : (ms : List ModuleTerm) (document number : ℕ) (x : Numbered) (few : Bool)
    (nodes cycle between within result : Option ModuleFault) (m : ℕ) (a : AssignmentTerm) (of : TypeTerm) →
    numbered_at ms number ≡ Some x → IsEarlier nodes cycle between → IsEarlier between within result →
    x.in_module ≡ m → x.assignment ≡ a → of ≡ type_assigned a.assigned →
    Leads ms document number x few nodes cycle within result m a of
assigned_judged ms document number x few nodes cycle between within result m a of at h g in_module assignment is =
    subst (λ t. Leads ms document number x few nodes cycle within result m a t) (sym is)
    (subst (λ b. Leads ms document number x few nodes cycle within result m b (type_assigned b.assigned)) assignment
    (subst (λ k. Leads ms document number x few nodes cycle within result k x.assignment
    (type_assigned x.assignment.assigned)) in_module
    (leads ms document number x few nodes cycle between within result at h g)))

-- the same, as what the assignment with a number has
pub at_number : (ms : List ModuleTerm) (document number : ℕ) (x : Numbered) (home : ModuleTerm)
    {result : Option ModuleFault} → numbered_at ms number ≡ Some x → slice_get ms x.in_module ≡ Some home →
    home.document ≡ document → IsFirstOf (In document (AssignmentFaults ms x)) result →
    IsFirstOf (FaultsAt ms number) result
at_number ms document number x home at in_module of_document h =
    first_by (In document (AssignmentFaults ms x)) (FaultsAt ms number) (
      λ kind its token fault.
          (x, at, home, record { module_at = in_module; numbered = of_document ∙ fault.0 }, fault.1),
      λ kind its token fault.
          let same = some_is fault.0 x (sym fault.1 ∙ at) in (
            sym of_document ∙ ap (λ (y : ModuleTerm). y.document) (some_is home fault.2 (sym in_module ∙
                ap (λ (y : Numbered). slice_get ms y.in_module) (sym same) ∙ fault.3.module_at)) ∙ fault.3.numbered,
            subst (λ (y : Numbered). AssignmentFaults ms y token kind) same fault.4,
          ),
    ) h

-- the imports of a module
pub at_place : (ms : List ModuleTerm) (document m : ℕ) (home : ModuleTerm) {result : Option ModuleFault} →
    slice_get ms m ≡ Some home → home.document ≡ document →
    IsFirstOf (In document (AnyOf (ImportFaults ms) home.imports)) result → IsFirstOf (ImportFaultsAt ms m) result
at_place ms document m home is of_document h =
    first_by (In document (AnyOf (ImportFaults ms) home.imports)) (ImportFaultsAt ms m) (
      λ kind its token fault. (home, record { module_at = is; numbered = of_document ∙ fault.0 }, fault.1),
      λ kind its token fault.
          let same = some_is home fault.0 (sym is ∙ fault.1.module_at) in (
            sym of_document ∙ ap (λ (y : ModuleTerm). y.document) same ∙ fault.1.numbered,
            subst (λ (y : ModuleTerm). AnyOf (ImportFaults ms) y.imports token kind) (sym same) fault.2,
          ),
    ) h

-- ---- one more place

pub below_none : (Faults : ℕ → FaultKind → ℕ → ℕ → Type 0) → IsFirstOf (Below Faults 0) None
below_none Faults = record {
  there = λ x is. absurd (cc);
  least = λ kind document token fault. absurd (omega (arith, fault.1));
}

below_cases : (Faults : ℕ → FaultKind → ℕ → ℕ → Type 0) (i : ℕ) (kind : FaultKind) (document token : ℕ) →
    Below Faults (i + 1) kind document token → Below Faults i kind document token ⊎ Faults i kind document token
below_cases Faults i kind document token fault = elim (cases_lt fault.0 i) as (λ _. Below Faults i kind document token
    ⊎ Faults i kind document token) [
      | inl below ↦ inl (fault.0, below, fault.2)
      | inr past ↦ (
          let within = fault.1 in
          let same : fault.0 ≡ i = omega (arith, past, within) in
          inr (subst (λ k. Faults k kind document token) same fault.2))
    ]

pub below_more : (Faults : ℕ → FaultKind → ℕ → ℕ → Type 0) (i : ℕ) {one other result : Option ModuleFault} →
    IsEarlier one other result → IsFirstOf (Below Faults i) one → IsFirstOf (Faults i) other →
    IsFirstOf (Below Faults (i + 1)) result
below_more Faults i h p q =
    first_by (λ kind document token. Below Faults i kind document token ⊎ Faults i kind document token)
    (Below Faults (i + 1)) (
      λ kind document token fault. elim fault as (λ _. Below Faults (i + 1) kind document token) [
        | inl before ↦ (before.0, (let within = before.1 in omega (arith, within)), before.2)
        | inr here ↦ (i, omega arith, here)
      ],
      below_cases Faults i,
    ) (both (Below Faults i) (Faults i) h p q)

pub counted_more : (ms : List ModuleTerm) (i : ℕ) → ((k : ℕ) → k < i → IsCounted ms k) → IsCounted ms i → (k : ℕ) →
    k < i + 1 → IsCounted ms k
counted_more ms i before here k within = elim (cases_lt k i) as (λ _. IsCounted ms k) [
  | inl below ↦ before k below
  | inr past ↦ (let same : i ≡ k = omega (arith, past, within) in subst (λ n. IsCounted ms n) same here)
]

-- ---- the module at a place

get_map : {X Y : Type 0} (f : X → Y) (xs : List X) (k : ℕ) → slice_get (map f xs) k ≡ option_map f (slice_get xs k)
get_map f [] k = refl
get_map f (x ∷ xs) zero = refl
get_map f (x ∷ xs) (suc k) = get_map f xs k

pub module_got : (xs : List Module) (place : ℕ) (r : Option (Bor Module)) → option_copied r ≡ slice_get xs place →
    MatchOption r (slice_get (module_terms xs) place ≡ None)
    (λ text. slice_get (module_terms xs) place ≡ Some (module_term text.now))
module_got xs place None is = get_map module_term xs place ∙ ap (option_map module_term) (sym is)
module_got xs place (Some text) is = get_map module_term xs place ∙ ap (option_map module_term) (sym is)

pub module_read : (xs : List Module) (place : ℕ) (text : Module) → place < length xs → text ≡ get_or xs place text →
    slice_get (module_terms xs) place ≡ Some (module_term text)
module_read xs place text within is = get_map module_term xs place ∙
    ap (option_map module_term) (slice_get_read xs (length xs) place text refl within is)

-- ---- the assignment with a number

pub no_module_there : (ms : List ModuleTerm) (number place : ℕ) (a : AssignmentTerm) → IsAssignment ms number place a →
    slice_get ms place ≡ None → ⊥
no_module_there ms number place a is absent =
    let found = numbered_in ms number is.numbered is.at in
    let e = sym found.1 ∙ ap (λ n. slice_get ms n) is.module_is ∙ absent in absurd (cc)

pub found_at : (ms : List ModuleTerm) (document number place : ℕ) (a : AssignmentTerm) (home : ModuleTerm)
    (r : Result (Option ModuleFault) AllocError) (is : IsAssignment ms number place a) →
    slice_get ms place ≡ Some home → home.document ≡ document →
    IfOk r (λ first. IsFirstOf (In document (AssignmentFaults ms is.numbered)) first) →
    IfOk r (λ first. IsFirstOf (FaultsAt ms number) first)
found_at ms document number place a home (Ok first) is there of_document h =
    at_number ms document number is.numbered home is.at (ap (λ n. slice_get ms n) is.module_is ∙ there) of_document h
found_at ms document number place a home (Err e) is there of_document h = tt
