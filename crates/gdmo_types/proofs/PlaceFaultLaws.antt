-- PlaceFaultLaws: faults of the elements of a list, each told with its place, and those of some lists together.
use Rattle.std.specs.Prelude.{◌≡◌, ◌<◌, ◌≤◌, ◌⊎◌, ◌+◌, ℕ, List, [], ◌∷◌, ◌++◌, Option, Some, Contains, length, refl}
use Rattle.std.specs.Prelude.{slice_get, suc, zero}
use Rattle.std.proofs.Common.{arith, inl, inr, sym, subst, ◌∙◌}
use Rattle.std.proofs.lemmas.Option.{same_Some, slice_get_within}
use Rattle.gdmo_names.specs.FaultSets.{AnyOf, Either, FaultSet, Notes}
use Rattle.gdmo_names.specs.FirstLabelFault.{LabelFault}
use Rattle.gdmo_names.specs.declared.first_fault.LabelFault.{LabelFault as NotedFault}
use Rattle.gdmo_names.proofs.NotingLaws.{both_noted, none_noted, noted_by}
use Rattle.gdmo_types.specs.PlaceFaults.{AtPlaces, BeforePlace}
use Rattle.gdmo_types.proofs.StepLaws.{contained_get, get_contained}

-- ---- one element more

pub before_none : {X : Type 0} (Faults : ℕ → X → FaultSet) (xs : List X) (before : Option NotedFault) →
    Notes (BeforePlace Faults xs 0) before before
before_none Faults xs before =
    none_noted (BeforePlace Faults xs 0) before (λ k d t fault. let less = fault.2 in omega (arith, less))

nat_cases : (j k : ℕ) → j < k + 1 → (j < k) ⊎ (j ≡ k)
nat_cases j k h = grind arith

-- the last of the elements before a place, or an earlier one
last_of : {X : Type 0} (Faults : ℕ → X → FaultSet) (xs : List X) (k : ℕ) (x : X) (kind : LabelFault)
    (document token : ℕ) → slice_get xs k ≡ Some x → BeforePlace Faults xs (k + 1) kind document token →
    Either (BeforePlace Faults xs k) (Faults k x) kind document token
last_of Faults xs k x kind document token at (j, y, less, there, fault) = by (nat_cases j k less)
  where
    by : (j < k) ⊎ (j ≡ k) → Either (BeforePlace Faults xs k) (Faults k x) kind document token
    by (inl h) = inl (j, y, h, there, fault)
    by (inr h) = inr (subst (λ z. Faults k z kind document token)
        (same_Some y x (sym there ∙ subst (λ n. slice_get xs n ≡ Some x) (sym h) at))
        (subst (λ n. Faults n y kind document token) h fault))

pub before_step : {X : Type 0} (Faults : ℕ → X → FaultSet) (xs : List X) (k : ℕ) (x : X)
    {one other next : Option NotedFault} → slice_get xs k ≡ Some x → Notes (BeforePlace Faults xs k) one other →
    Notes (Faults k x) other next → Notes (BeforePlace Faults xs (k + 1)) one next
before_step Faults xs k x at p q =
    noted_by (Either (BeforePlace Faults xs k) (Faults k x)) (BeforePlace Faults xs (k + 1))
    (λ kind d t fault. elim fault as (λ _. BeforePlace Faults xs (k + 1) kind d t) [
      | inl here ↦ (here.0, here.1, (let less = here.2 in omega (arith, less)), here.3, here.4)
      | inr here ↦ (k, x, omega arith, at, here)
    ])
    (λ kind d t fault. last_of Faults xs k x kind d t at fault)
    (both_noted (BeforePlace Faults xs k) (Faults k x) p q)

pub before_all : {X : Type 0} (Faults : ℕ → X → FaultSet) (xs : List X) (k : ℕ) {one next : Option NotedFault} →
    length xs ≤ k → Notes (BeforePlace Faults xs k) one next → Notes (AtPlaces Faults xs) one next
before_all Faults xs k past h = noted_by (BeforePlace Faults xs k) (AtPlaces Faults xs)
    (λ kind d t fault. (fault.0, fault.1, fault.3, fault.4))
    (λ kind d t fault. (
      fault.0,
      fault.1,
      (let within = slice_get_within xs fault.0 fault.1 fault.2 in omega (arith, within, past)),
      fault.2,
      fault.3,
    )) h

-- ---- of two lists, one behind the other

pub any_both : {X : Type 0} (Faults : X → FaultSet) (xs ys : List X) (kind : LabelFault) (document token : ℕ) →
    AnyOf Faults (xs ++ ys) kind document token → Either (AnyOf Faults xs) (AnyOf Faults ys) kind document token
any_both Faults [] ys kind document token fault = inr fault
any_both Faults (x ∷ xs) ys kind document token (inl here) = inl (inl here)
any_both Faults (x ∷ xs) ys kind document token (inr behind) =
    elim (any_both Faults xs ys kind document token behind) as
    (λ _. Either (AnyOf Faults (x ∷ xs)) (AnyOf Faults ys) kind document token) [
      | inl here ↦ inl (inr here)
      | inr here ↦ inr here
    ]

pub any_left : {X : Type 0} (Faults : X → FaultSet) (xs ys : List X) (kind : LabelFault) (document token : ℕ) →
    AnyOf Faults xs kind document token → AnyOf Faults (xs ++ ys) kind document token
any_left Faults [] ys kind document token fault = absurd fault
any_left Faults (x ∷ xs) ys kind document token (inl here) = inl here
any_left Faults (x ∷ xs) ys kind document token (inr behind) =
    inr (any_left Faults xs ys kind document token behind)

pub any_right : {X : Type 0} (Faults : X → FaultSet) (xs ys : List X) (kind : LabelFault) (document token : ℕ) →
    AnyOf Faults ys kind document token → AnyOf Faults (xs ++ ys) kind document token
any_right Faults [] ys kind document token fault = fault
any_right Faults (x ∷ xs) ys kind document token fault = inr (any_right Faults xs ys kind document token fault)

-- ---- an element that has a fault

pub any_found : {X : Type 0} (Faults : X → FaultSet) (xs : List X) (kind : LabelFault) (document token : ℕ) →
    AnyOf Faults xs kind document token → (x : X) × Contains xs x × Faults x kind document token
any_found Faults [] kind document token fault = absurd fault
any_found Faults (x ∷ xs) kind document token (inl here) = (x, get_contained (x ∷ xs) 0 x refl, here)
any_found Faults (x ∷ xs) kind document token (inr behind) =
    let found = any_found Faults xs kind document token behind in
    let place = contained_get xs found.0 found.1 in
    (found.0, get_contained (x ∷ xs) (suc place.0) found.0 place.1, found.2)

pub any_noted : {X : Type 0} (Faults : X → FaultSet) (xs : List X) (x : X) (kind : LabelFault) (document token : ℕ) →
    Contains xs x → Faults x kind document token → AnyOf Faults xs kind document token
any_noted {X} Faults xs x kind document token has fault =
    let place = contained_get xs x has in by xs place.0 place.1
  where
    by : (ys : List X) (k : ℕ) → slice_get ys k ≡ Some x → AnyOf Faults ys kind document token
    by [] k at = absurd (cc)
    by (y ∷ ys) zero at = inl (subst (λ z. Faults z kind document token) (sym (same_Some y x at)) fault)
    by (y ∷ ys) (suc k) at = inr (by ys k at)
