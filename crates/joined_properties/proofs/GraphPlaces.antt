-- GraphPlaces: a class leads at once to its superclasses, and places in lists.
use Rattle.std.proofs.Common.{◌≡◌, ◌<◌, ◌≤◌, ◌∷◌, [], ℕ, zero, suc, List, Some, None, refl, sym, subst, ⊎_elim}
use Rattle.std.proofs.Common.{arith, length, ap}
use Rattle.std.proofs.lemmas.Bool.{cases_lt}
use Rattle.std.specs.Prelude.{Contains, slice_get}
use Rattle.link_graphs.specs.Leading.{LeadsAtOnce, targets_of}
use Rattle.linked_parts.specs.declared.linked.LinkedClass.{LinkedClass}
use Rattle.class_faults.specs.CyclicFaults.{superclasses_of}
use Rattle.joined_properties.proofs.OwnLaws.{first_of_list, in_list, later_of_list}

pub got_some : {X : Type 0} (xs : List X) (k : ℕ) → k < length xs → (x : X) × (slice_get xs k ≡ Some x)
got_some [] k within = absurd (omega arith)
got_some (x ∷ xs) zero within = (x, refl)
got_some (x ∷ xs) (suc k) within = got_some xs k (omega arith)

pub got_none : {X : Type 0} (xs : List X) (k : ℕ) → length xs ≤ k → slice_get xs k ≡ None
got_none [] k past = refl
got_none (x ∷ xs) zero past = absurd (omega arith)
got_none (x ∷ xs) (suc k) past = got_none xs k (omega arith)

pub got_within : {X : Type 0} (xs : List X) (k : ℕ) (x : X) → slice_get xs k ≡ Some x → k < length xs
got_within [] k x e = absurd (cc)
got_within (y ∷ xs) zero x e = omega arith
got_within (y ∷ xs) (suc k) x e = omega (arith, got_within xs k x e)

pub listed : {X : Type 0} (xs : List X) (k : ℕ) (x : X) → slice_get xs k ≡ Some x → Contains xs x
listed [] k x e = absurd (cc)
listed (y ∷ xs) zero x e =
    let same : y ≡ x = cc in
    subst (λ z. Contains (y ∷ xs) z) same (first_of_list y xs)
listed (y ∷ xs) (suc k) x e = later_of_list y xs x (listed xs k x e)

pub placed : {X : Type 0} (xs : List X) (x : X) → Contains xs x → (k : ℕ) × (slice_get xs k ≡ Some x)
placed [] x c = absurd (omega (arith, c.1))
placed {X} (y ∷ xs) x c =
    ⊎_elim (λ (same : y ≡ x). (0, ap Some same))
    (λ (d : Contains xs x). let p = placed xs x d in (suc p.0, p.1))
    (in_list y xs x c)

pub targets_are : (classes : List LinkedClass) (k : ℕ) (of_class : LinkedClass) → slice_get classes k ≡ Some of_class →
    targets_of (superclasses_of classes) k ≡ of_class.superclasses.items
targets_are [] k of_class e = absurd (cc)
targets_are (x ∷ classes) zero of_class e =
    let same : x ≡ of_class = cc in
    ap (λ (y : LinkedClass). y.superclasses.items) same
targets_are (x ∷ classes) (suc k) of_class e = targets_are classes k of_class e

pub size_same : (classes : List LinkedClass) → length (superclasses_of classes) ≡ length classes
size_same [] = refl
size_same (x ∷ classes) = ap suc (size_same classes)

-- a class leads at once to a class from which it derives directly
pub leads_above : (classes : List LinkedClass) (k above : ℕ) (of_class : LinkedClass) →
    slice_get classes k ≡ Some of_class → Contains of_class.superclasses.items above → above < length classes →
    LeadsAtOnce (superclasses_of classes) k above
leads_above classes k above of_class at c within =
    let p = placed of_class.superclasses.items above c in
    record {
      place = p.0;
      stands = subst (λ xs. slice_get xs p.0 ≡ Some above) (sym (targets_are classes k of_class at)) p.1;
      within = subst (λ n. above < n) (sym (size_same classes)) within;
    }

-- whatever leads at once to another is a class that derives directly from it
pub record DerivesFrom (classes : List LinkedClass) (k above : ℕ) : Type 0 where
  pub of_class : LinkedClass
  pub class_at : slice_get classes k ≡ Some of_class
  pub from : Contains of_class.superclasses.items above
  pub within : above < length classes

no_targets : (classes : List LinkedClass) (k : ℕ) → length classes ≤ k → targets_of (superclasses_of classes) k ≡ []
no_targets [] k past = refl
no_targets (x ∷ classes) zero past = absurd (omega arith)
no_targets (x ∷ classes) (suc k) past = no_targets classes k (omega arith)

pub derives_from : (classes : List LinkedClass) (k above : ℕ) → LeadsAtOnce (superclasses_of classes) k above →
    DerivesFrom classes k above
derives_from classes k above leads =
    ⊎_elim
    (λ (within : k < length classes).
    let of = got_some classes k within in
    record {
      of_class = of.0;
      class_at = of.1;
      from = listed of.0.superclasses.items leads.place above
          (subst (λ xs. slice_get xs leads.place ≡ Some above) (targets_are classes k of.0 of.1) leads.stands);
      within = subst (λ n. above < n) (size_same classes) leads.within;
    })
    (λ (past : length classes ≤ k).
    absurd (nowhere leads.place (subst (λ xs. slice_get xs leads.place ≡ Some above) (no_targets classes k past)
    leads.stands)))
    (cases_lt k (length classes))
  where
    nowhere : (place : ℕ) → slice_get [] place ≡ Some above → ⊥
    nowhere place e = absurd (cc)
