-- A graph turned round, target by target.
use Rattle.std.proofs.Common.{◌≡◌, ℕ, suc, zero, ◌+◌, ◌<◌, ◌≤◌, ◌⊎◌, List, [], ◌∷◌, ◌++◌, None, Some, Vec, Global}
use Rattle.std.proofs.Common.{length, set, length-set, replicate, sym, ap, ◌∙◌, inl, inr, subst, arith}
use Rattle.std.specs.Prelude.{map}
use Rattle.std.specs.List.{slice_get}
use Rattle.std.proofs.lemmas.Bool.{cases_lt, cases_eq}
use Rattle.std.proofs.lemmas.List.{get_or-set_same, get_or-set_other, get_or-replicate, get_or_past}
use Rattle.std.proofs.lemmas.List.{length-replicate, set_past}
use Rattle.std.proofs.lemmas.Option.{same_Some}
use Rattle.link_graphs.specs.Leading.{LeadsAtOnce, targets_of}
use Rattle.link_graphs.specs.Marking.{IsTarget}
use Rattle.link_graphs.specs.Turning.{IsTurned, with_target}
use Rattle.link_graphs.proofs.PlaceLaws.{get_before, get_last, IsPushed, get_push, nothing_there, same_there}
use Rattle.link_graphs.proofs.PlaceLaws.{past_there}

abbrev items : Vec ℕ Global → List ℕ
items v = v.items

pub with_more : (xs : List (Vec ℕ Global)) (i : ℕ) (v w : Vec ℕ Global) (t : ℕ) → slice_get xs i ≡ Some v
    → w.items ≡ v.items ++ t ∷ [] → map items (set xs i w) ≡ with_target (map items xs) i t
with_more [] i v w t h e = absurd (cc)
with_more (x ∷ xs) zero v w t h e =
    ap (λ z. z ∷ map items xs) (e ∙ ap (λ (z : Vec ℕ Global). z.items ++ t ∷ []) (sym (same_Some x v h)))
with_more (x ∷ xs) (suc i) v w t h e = ap (λ zs. x.items ∷ zs) (with_more xs i v w t h e)

-- an element that has a target is one of the list
pub has_within : (lists : List (List ℕ)) (e t : ℕ) → IsTarget lists e t → e < length lists
has_within lists e t has = by (cases_lt e (length lists))
  where
    by : (e < length lists) ⊎ (length lists ≤ e) → e < length lists
    by (inl h) = h
    by (inr h) =
        nothing_there has.0 t (subst (λ xs. slice_get xs has.0 ≡ Some t) (get_or_past lists e [] h) has.1)

pub leads_to : (lists : List (List ℕ)) (e t : ℕ) → IsTarget lists e t → t < length lists → LeadsAtOnce lists e t
leads_to lists e t has within = record { place = has.0; stands = has.1; within = within }

pub target_to : (lists : List (List ℕ)) (e t : ℕ) → LeadsAtOnce lists e t → IsTarget lists e t
target_to lists e t one = (one.place, one.stands)

-- what was turned so far: all that elements before one lead to, and that one by its targets before a place
pub record IsPartlyTurned (lists turned : List (List ℕ)) (element place : ℕ) : Type 0 where
  pub size : length turned ≡ length lists
  pub sound : (t e : ℕ) → IsTarget turned t e → IsTarget lists e t
  pub before : (e t : ℕ) → e < element → LeadsAtOnce lists e t → IsTarget turned t e
  pub here : (k t : ℕ) → k < place → slice_get (targets_of lists element) k ≡ Some t → t < length lists →
      IsTarget turned t element

pub none_turned : (lists : List (List ℕ)) → IsPartlyTurned lists (replicate (length lists) []) 0 0
none_turned lists = record {
  size = length-replicate (length lists) [];
  sound = λ t e has. nothing_there has.0 e (subst (λ xs. slice_get xs has.0 ≡ Some e) (none t) has.1);
  before = λ e t less. absurd (omega arith);
  here = λ k t less. absurd (omega arith);
}
  where
    none : (t : ℕ) → targets_of (replicate (length lists) []) t ≡ []
    none t = by (cases_lt t (length lists))
      where
        by : (t < length lists) ⊎ (length lists ≤ t) → targets_of (replicate (length lists) []) t ≡ []
        by (inl h) = get_or-replicate (length lists) t [] [] h
        by (inr h) =
            get_or_past (replicate (length lists) []) t []
            (let l = length-replicate {A = List ℕ} (length lists) [] in omega arith)

-- ---- one more target

module _ (turned : List (List ℕ)) (t e : ℕ) where
  more_there : t < length turned → targets_of (with_target turned t e) t ≡ targets_of turned t ++ e ∷ []
  more_there within = get_or-set_same turned t (targets_of turned t ++ e ∷ []) [] within

  same_elsewhere : (u : ℕ) → (u ≡ t → ⊥) → targets_of (with_target turned t e) u ≡ targets_of turned u
  same_elsewhere u other = get_or-set_other turned t u (targets_of turned t ++ e ∷ []) [] other

  pub kept_target : t < length turned → (u f : ℕ) → IsTarget turned u f → IsTarget (with_target turned t e) u f
  kept_target within u f has = by (cases_eq u t)
    where
      by : (u ≡ t) ⊎ (u ≡ t → ⊥) → IsTarget (with_target turned t e) u f
      by (inl h) = (
        has.0,
        subst (λ xs. slice_get xs has.0 ≡ Some f) (sym (ap (targets_of (with_target turned t e)) h ∙ more_there within))
            (get_before (targets_of turned t) (e ∷ []) has.0 f
            (subst (λ x. slice_get (targets_of turned x) has.0 ≡ Some f) h has.1)),
      )
      by (inr h) = (has.0, subst (λ xs. slice_get xs has.0 ≡ Some f) (sym (same_elsewhere u h)) has.1)

  pub new_target : t < length turned → IsTarget (with_target turned t e) t e
  new_target within = (
    length (targets_of turned t),
    subst (λ xs. slice_get xs (length (targets_of turned t)) ≡ Some e) (sym (more_there within))
        (get_last (targets_of turned t) e),
  )

  pub former_target : t < length turned → (u f : ℕ) → IsTarget (with_target turned t e) u f
      → IsTarget turned u f ⊎ ((u ≡ t) × (f ≡ e))
  former_target within u f has = by (cases_eq u t)
    where
      pushed : u ≡ t → IsPushed (targets_of turned t) e has.0 f
          → IsTarget turned u f ⊎ ((u ≡ t) × (f ≡ e))
      pushed h (inl i) = inl (has.0, subst (λ x. slice_get (targets_of turned x) has.0 ≡ Some f) (sym h) i)
      pushed h (inr i) = inr (h, sym i.1)

      by : (u ≡ t) ⊎ (u ≡ t → ⊥) → IsTarget turned u f ⊎ ((u ≡ t) × (f ≡ e))
      by (inl h) =
          pushed h (get_push (targets_of turned t) e has.0 f
          (subst (λ xs. slice_get xs has.0 ≡ Some f) (ap (targets_of (with_target turned t e)) h ∙ more_there within)
          has.1))
      by (inr h) = inl (has.0, subst (λ xs. slice_get xs has.0 ≡ Some f) (same_elsewhere u h) has.1)

module _ (lists turned : List (List ℕ)) (element place t : ℕ)
    (is : slice_get (targets_of lists element) place ≡ Some t)
    (w : IsPartlyTurned lists turned element place) where
  turned_within : t < length turned → IsPartlyTurned lists (with_target turned t element) element (place + 1)
  turned_within within = record {
    size = length-set turned t (targets_of turned t ++ element ∷ []) ∙ w.size;
    sound = λ u f has. sound u f (former_target turned t element within u f has);
    before = λ e u less one. kept_target turned t element within u e (w.before e u less one);
    here = λ k u less stands inside. here k u stands inside (cases_lt k place) less;
  }
    where
      sound : (u f : ℕ) → IsTarget turned u f ⊎ ((u ≡ t) × (f ≡ element)) → IsTarget lists f u
      sound u f (inl h) = w.sound u f h
      sound u f (inr h) =
          subst (λ x. IsTarget lists x u) (sym h.1) (subst (λ x. IsTarget lists element x) (sym h.0) (place, is))

      here : (k u : ℕ) → slice_get (targets_of lists element) k ≡ Some u → u < length lists
          → (k < place) ⊎ (place ≤ k) → k < place + 1 → IsTarget (with_target turned t element) u element
      here k u stands inside (inl h) less = kept_target turned t element within u element (w.here k u h stands inside)
      here k u stands inside (inr h) less =
          let same : place ≡ k = omega arith in
          let it : t ≡ u = same_there (targets_of lists element) k t u
          (subst (λ n. slice_get (targets_of lists element) n ≡ Some t) same is) stands in
          subst (λ x. IsTarget (with_target turned t element) x element) it (new_target turned t element within)

  turned_past : length turned ≤ t → IsPartlyTurned lists (with_target turned t element) element (place + 1)
  turned_past past =
      subst (λ xs. IsPartlyTurned lists xs element (place + 1))
      (sym (set_past turned t (targets_of turned t ++ element ∷ []) past))
      (record {
        size = w.size;
        sound = w.sound;
        before = w.before;
        here = λ k u less stands inside. here k u stands inside (cases_lt k place) less;
      })
    where
      here : (k u : ℕ) → slice_get (targets_of lists element) k ≡ Some u → u < length lists
          → (k < place) ⊎ (place ≤ k) → k < place + 1 → IsTarget turned u element
      here k u stands inside (inl h) less = w.here k u h stands inside
      here k u stands inside (inr h) less =
          let same : place ≡ k = omega arith in
          let it : t ≡ u = same_there (targets_of lists element) k t u
          (subst (λ n. slice_get (targets_of lists element) n ≡ Some t) same is) stands in
          let size = w.size in absurd (omega arith)

  pub one_turned : IsPartlyTurned lists (with_target turned t element) element (place + 1)
  one_turned = by (cases_lt t (length turned))
    where
      by : (t < length turned) ⊎ (length turned ≤ t)
          → IsPartlyTurned lists (with_target turned t element) element (place + 1)
      by (inl h) = turned_within h
      by (inr h) = turned_past h

pub element_turned : (lists turned : List (List ℕ)) (element place : ℕ)
    → slice_get (targets_of lists element) place ≡ None → IsPartlyTurned lists turned element place
    → IsPartlyTurned lists turned (element + 1) 0
element_turned lists turned element place none w = record {
  size = w.size;
  sound = w.sound;
  before = λ e t less one. before e t one (cases_lt e element) less;
  here = λ k t less. absurd (omega arith);
}
  where
    before : (e t : ℕ) → LeadsAtOnce lists e t → (e < element) ⊎ (element ≤ e) → e < element + 1
        → IsTarget turned t e
    before e t one (inl h) less = w.before e t h one
    before e t one (inr h) less =
        let same : e ≡ element = omega arith in
        let stands = subst (λ x. slice_get (targets_of lists x) one.place ≡ Some t) same one.stands in
        subst (λ x. IsTarget turned t x) (sym same)
        (w.here one.place t (past_there (targets_of lists element) place one.place t none stands) stands one.within)

pub all_turned : (lists turned : List (List ℕ)) (element : ℕ) → length lists ≤ element
    → IsPartlyTurned lists turned element 0 → IsTurned lists turned
all_turned lists turned element past w = record {
  size = w.size;
  leads = λ e t. (
    (λ one. leads_to turned t e
        (w.before e t (let h = has_within lists e t (target_to lists e t one) in omega arith) one)
        (let h = has_within lists e t (target_to lists e t one) in let s = w.size in omega arith)),
    (λ one. leads_to lists e t (w.sound t e (target_to turned t e one))
        (let h = has_within turned t e (target_to turned t e one) in let s = w.size in omega arith)),
  );
}
