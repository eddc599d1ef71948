-- Rounds in which the superclasses of classes are added to them.
use Rattle.std.proofs.Common.{◌≡◌, ◌⊎◌, ℕ, zero, suc, List, [], ◌∷◌, ◌++◌, refl, ap, ◌∙◌, subst}
use Rattle.std.proofs.Common.{inl, inr}
use Rattle.std.proofs.lemmas.List.Elements.{Contains-append_cases, Contains-append_left, Contains-push}
use Rattle.std.specs.Prelude.{Contains, flat_map, if◌then◌else◌}
use Rattle.term_model.specs.declared.schema.ClassRec.{ClassRec}
use Rattle.term_model.specs.PresentPackages.{is_among, superclasses, with_new, with_superclasses}
use Rattle.package_laws.proofs.Members.{either_way, first_or_later, here, is_among_Decides, joined, nowhere, there}

-- the classes after one round
abbrev pub next : List ClassRec → List (List ℕ) → List (List ℕ)
next records found = with_new found (flat_map (superclasses records) found)

pub kept : (found ids : List (List ℕ)) (id : List ℕ) → Contains found id → Contains (with_new found ids) id
kept found [] id at = at
kept found (first ∷ ids) id at =
    either_way (λ xs. Contains xs id) (is_among found first) (with_new found ids) (with_new (found ++ first ∷ []) ids)
    (λ e. kept found ids id at)
    (λ e. kept (found ++ first ∷ []) ids id (Contains-append_left found (first ∷ []) id at))

pub added : (found ids : List (List ℕ)) (id : List ℕ) → Contains ids id → Contains (with_new found ids) id
added found [] id at = absurd (nowhere id at)
added found (first ∷ ids) id at =
    either_way (λ xs. Contains xs id) (is_among found first) (with_new found ids) (with_new (found ++ first ∷ []) ids)
    (λ e. elim (first_or_later first id ids at) [
      | inl same ↦ kept found ids id (subst (Contains found) same ((is_among_Decides found first).0 e))
      | inr later ↦ added found ids id later
    ])
    (λ e. elim (first_or_later first id ids at) [
      | inl same ↦ kept (found ++ first ∷ []) ids id
          (subst (Contains (found ++ first ∷ [])) same (Contains-push found first))
      | inr later ↦ added (found ++ first ∷ []) ids id later
    ])

pub only : (found ids : List (List ℕ)) (id : List ℕ) → Contains (with_new found ids) id
    → Contains found id ⊎ Contains ids id
only found [] id at = inl at
only found (first ∷ ids) id at =
    either_way (λ xs. Contains xs id → Contains found id ⊎ Contains (first ∷ ids) id) (is_among found first)
    (with_new found ids) (with_new (found ++ first ∷ []) ids) (λ e h. old (only found ids id h))
    (λ e h. new (only (found ++ first ∷ []) ids id h)) at
  where
    old : Contains found id ⊎ Contains ids id → Contains found id ⊎ Contains (first ∷ ids) id
    old (inl before) = inl before
    old (inr later) = inr (there first id ids later)

    pushed : Contains found id ⊎ Contains (first ∷ []) id → Contains found id ⊎ Contains (first ∷ ids) id
    pushed (inl before) = inl before
    pushed (inr one) =
        elim (first_or_later first id [] one) [
          | inl same ↦ inr (joined first id ids (inl same))
          | inr none ↦ absurd (nowhere id none)
        ]

    new : Contains (found ++ first ∷ []) id ⊎ Contains ids id → Contains found id ⊎ Contains (first ∷ ids) id
    new (inl before) = pushed (Contains-append_cases found (first ∷ []) id before)
    new (inr later) = inr (there first id ids later)

-- nothing is added where all are there
pub none_added : (found ids : List (List ℕ)) → ((id : List ℕ) → Contains ids id → Contains found id)
    → with_new found ids ≡ found
none_added found [] all = refl
none_added found (first ∷ ids) all =
    ap (λ b. if b then with_new found ids else with_new (found ++ first ∷ []) ids)
    ((is_among_Decides found first).1 (all first (here first ids)))
    ∙ none_added found ids (λ id at. all id (there first id ids at))

-- a class that is there stays
pub within : (records : List ClassRec) (times : ℕ) (found : List (List ℕ)) (id : List ℕ) → Contains found id
    → Contains (with_superclasses records times found) id
within records zero found id at = at
within records (suc times) found id at =
    within records times (next records found) id (kept found (flat_map (superclasses records) found) id at)

-- classes to which no round adds one
pub stays : (records : List ClassRec) (found : List (List ℕ)) → next records found ≡ found → (times : ℕ)
    → with_superclasses records times found ≡ found
stays records found same zero = refl
stays records found same (suc times) =
    ap (λ classes. with_superclasses records times classes) same ∙ stays records found same times
