-- PlaceFaultLaws: faults of the elements of a list, each told with its place.
use Rattle.std.specs.Prelude.{◌≡◌, ◌<◌, ◌≤◌, ◌⊎◌, ◌+◌, ℕ, List, [], ◌∷◌, ◌++◌, Option, Some, Contains, length, refl}
use Rattle.std.specs.Prelude.{slice_get, suc, zero}
use Rattle.std.proofs.Common.{arith, get_or, inl, inr, sym, subst, ◌∙◌}
use Rattle.std.proofs.lemmas.Option.{same_Some, slice_get_read, slice_get_within}
use Rattle.class_faults.specs.FaultSets.{Either, FaultSet, Notes}
use Rattle.class_faults.specs.FirstClassFault.{ClassFault}
use Rattle.class_faults.specs.declared.first_fault.ClassFault.{ClassFault as NotedFault}
use Rattle.class_faults.proofs.NotingLaws.{both_noted, none_noted, noted_by}
use Rattle.class_faults.specs.PlaceFaults.{AtPlaces, BeforePlace}

-- ---- one element more

pub before_none : {X : Type 0} (Faults : ℕ → X → FaultSet) (xs : List X) (before : Option NotedFault) →
    Notes (BeforePlace Faults xs 0) before before
before_none Faults xs before =
    none_noted (BeforePlace Faults xs 0) before (λ k d t fault. let less = fault.2 in omega (arith, less))

nat_cases : (j k : ℕ) → j < k + 1 → (j < k) ⊎ (j ≡ k)
nat_cases j k h = grind arith

-- the last of the elements before a place, or an earlier one
last_of : {X : Type 0} (Faults : ℕ → X → FaultSet) (xs : List X) (k : ℕ) (x : X) (kind : ClassFault)
    (document token : ℕ) → slice_get xs k ≡ Some x → BeforePlace Faults xs (k + 1) kind document token →
    Either (BeforePlace Faults xs k) (Faults k x) kind document token
last_of Faults xs k x kind document token at (j, y, less, there, fault) = by (nat_cases j k less)
  where
    by : (j < k) ⊎ (j ≡ k) → Either (BeforePlace Faults xs k) (Faults k x) kind document token
    by (inl h) = inl (j, y, h, there, fault)
    by (inr h) = inr (subst (λ z. Faults k z kind document token)
        (same_Some y x (sym there ∙ subst (λ n. slice_get xs n ≡ Some x) (sym h) at))
        (subst (λ n. Faults n y kind document token) h fault))

pub before_step : {X : Type 0} (Faults : ℕ → X → FaultSet) (xs : List X) (k : ℕ) (x : X)
    {one other next : Option NotedFault} → slice_get xs k ≡ Some x → Notes (BeforePlace Faults xs k) one other →
    Notes (Faults k x) other next → Notes (BeforePlace Faults xs (k + 1)) one next
before_step Faults xs k x at p q =
    noted_by (Either (BeforePlace Faults xs k) (Faults k x)) (BeforePlace Faults xs (k + 1))
    (λ kind d t fault. elim fault as (λ _. BeforePlace Faults xs (k + 1) kind d t) [
      | inl here ↦ (here.0, here.1, (let less = here.2 in omega (arith, less)), here.3, here.4)
      | inr here ↦ (k, x, omega arith, at, here)
    ])
    (λ kind d t fault. last_of Faults xs k x kind d t at fault)
    (both_noted (BeforePlace Faults xs k) (Faults k x) p q)

pub before_all : {X : Type 0} (Faults : ℕ → X → FaultSet) (xs : List X) (k : ℕ) {one next : Option NotedFault} →
    length xs ≤ k → Notes (BeforePlace Faults xs k) one next → Notes (AtPlaces Faults xs) one next
before_all Faults xs k past h = noted_by (BeforePlace Faults xs k) (AtPlaces Faults xs)
    (λ kind d t fault. (fault.0, fault.1, fault.3, fault.4))
    (λ kind d t fault. (
      fault.0,
      fault.1,
      (let within = slice_get_within xs fault.0 fault.1 fault.2 in omega (arith, within, past)),
      fault.2,
      fault.3,
    )) h

-- the element that a loop has in hand
pub got_at : {X : Type 0} (xs : List X) (k : ℕ) (x : X) → k < length xs → x ≡ get_or xs k x → slice_get xs k ≡ Some x
got_at xs k x within is = slice_get_read xs (length xs) k x refl within is
