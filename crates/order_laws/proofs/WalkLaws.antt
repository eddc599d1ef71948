-- WalkLaws: where no element of a graph leads to itself, a walk comes to no element twice, so it has fewer steps than
-- there are elements.
use Rattle.std.proofs.Common.{◌≡◌, ◌<◌, ◌≤◌, ℕ, List, [], ◌∷◌, Bool, true, false, eqb, length, sym, arith}
use Rattle.std.proofs.Common.{⊎_elim, subst, true≢false}
use Rattle.std.specs.List.{AllByRecursion, IsDistinct, list_any}
use Rattle.std.proofs.lemmas.Bool.{eqb-true, false_from_ne_true, or_cases, or_parts}
use Rattle.std.proofs.lemmas.Map.Steps.{length-le_from_distinct_below}
use Rattle.link_graphs.specs.Leading.{LeadsAtOnce, Leads}
use Rattle.link_graphs.specs.Leading.Leads.{at_once}
use Rattle.link_graphs.proofs.LeadingLaws.{leads_on, target_within}

-- a walk from an element, and the elements to which it comes, one by one
pub data Walk (lists : List (List ℕ)) : ℕ → List ℕ → Type 0 where
  ends : {element : ℕ} → Walk lists element []
  goes : {element target : ℕ} {further : List ℕ} → LeadsAtOnce lists element target → Walk lists target further →
      Walk lists element (target ∷ further)

-- an element leads to all to which a walk from it comes
led : {lists : List (List ℕ)} {element : ℕ} {further : List ℕ} → Walk lists element further → (other : ℕ) →
    list_any (eqb other) further ≡ true → Leads lists element other
led ends other is = absurd (true≢false (sym is))
led {lists = lists} {element = element} (goes {target = target} {further = further} one walk) other is =
    ⊎_elim
    (λ (same : eqb other target ≡ true). at_once (subst (LeadsAtOnce lists element)
    (sym (eqb-true other target same)) one))
    (λ (behind : list_any (eqb other) further ≡ true). leads_on (at_once one) (led walk other behind))
    (or_cases (eqb other target) (list_any (eqb other) further) is)

none_passes : {X : Type 0} (test : X → Bool) (xs : List X) → list_any test xs ≡ false →
    AllByRecursion (λ x. test x ≡ false) xs
none_passes test [] none_of = tt
none_passes test (x ∷ xs) none_of =
    let parts = or_parts (test x) (list_any test xs) none_of in
    (parts.0, none_passes test xs parts.1)

module _ (lists : List (List ℕ)) (acyclic : (element : ℕ) → ¬ Leads lists element element) where
  are_distinct : {element : ℕ} {further : List ℕ} → Walk lists element further → IsDistinct eqb (element ∷ further)
  unfolding IsDistinct
  are_distinct ends = (tt, tt)
  are_distinct {element = element} (goes {target = target} {further = further} one walk) = (
    none_passes (eqb element) (target ∷ further)
        (false_from_ne_true (list_any (eqb element) (target ∷ further))
        (λ twice. acyclic element (led (goes one walk) element twice))),
    are_distinct walk,
  )

  are_below : {element : ℕ} {further : List ℕ} → Walk lists element further → element < length lists → (other : ℕ) →
      list_any (eqb other) (element ∷ further) ≡ true → other < length lists
  are_below {element = element} {further = further} walk within other is =
      ⊎_elim
      (λ (same : eqb other element ≡ true). subst (λ n. n < length lists) (sym (eqb-true other element same)) within)
      (λ (behind : list_any (eqb other) further ≡ true). target_within (led walk other behind))
      (or_cases (eqb other element) (list_any (eqb other) further) is)

  pub is_short : {element : ℕ} {further : List ℕ} → Walk lists element further → element < length lists →
      length further < length lists
  is_short {element = element} {further = further} walk within =
      let at_most : length (element ∷ further) ≤ length lists = length-le_from_distinct_below (element ∷ further)
      (length lists) (are_distinct walk) (are_below walk within) in
      omega arith
