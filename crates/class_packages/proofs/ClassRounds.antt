-- Rounds in which the superclasses of classes are added to them: one that adds none is the last.
use Rattle.std.proofs.Common.{◌≡◌, ℕ, zero, suc, ◌+◌, ◌-◌, ◌<◌, ◌≤◌, Bool, true, false, List, [], ◌∷◌, ◌++◌, length, arith}
use Rattle.std.proofs.Common.{refl, ap, sym, ◌∙◌, length-append}
use Rattle.std.specs.Prelude.{flat_map, if◌then◌else◌}
use Rattle.term_model.specs.declared.schema.ClassRec.{ClassRec}
use Rattle.term_model.specs.PresentPackages.{is_among, superclasses, with_new, with_superclasses}

pub grows : (found ids : List (List ℕ)) → length found ≤ length (with_new found ids)
grows found [] = omega arith
grows found (id ∷ ids) = by_test (is_among found id) (grows found ids) (grows (found ++ id ∷ []) ids)
  where
    by_test : (b : Bool) → length found ≤ length (with_new found ids)
        → length (found ++ id ∷ []) ≤ length (with_new (found ++ id ∷ []) ids)
        → length found ≤ length (if b then with_new found ids else with_new (found ++ id ∷ []) ids)
    by_test true same more = same
    by_test false same more = omega (arith, more, length-append found (id ∷ []))

pub no_longer : (found ids : List (List ℕ)) → length (with_new found ids) ≡ length found → with_new found ids ≡ found
no_longer found [] h = refl
no_longer found (id ∷ ids) h =
    by_test (is_among found id) (λ e. no_longer found ids e) (grows (found ++ id ∷ []) ids) h
  where
    by_test : (b : Bool) → (length (with_new found ids) ≡ length found → with_new found ids ≡ found)
        → length (found ++ id ∷ []) ≤ length (with_new (found ++ id ∷ []) ids)
        → length (if b then with_new found ids else with_new (found ++ id ∷ []) ids) ≡ length found
        → (if b then with_new found ids else with_new (found ++ id ∷ []) ids) ≡ found
    by_test true same more e = same e
    by_test false same more e = absurd (omega (arith, more, e, length-append found (id ∷ [])))

pub one_round : (records : List ClassRec) (n i : ℕ) (found : List (List ℕ)) → i < n
    → with_superclasses records (n - i) found
    ≡ with_superclasses records (n - (i + 1)) (with_new found (flat_map (superclasses records) found))
one_round records n i found h =
    let e : n - i ≡ suc (n - (i + 1)) = omega arith in
    ap (λ k. with_superclasses records k found) e

pub stays : (records : List ClassRec) (found : List (List ℕ))
    → with_new found (flat_map (superclasses records) found) ≡ found → (k : ℕ)
    → with_superclasses records k found ≡ found
stays records found h zero = refl
stays records found h (suc k) = ap (λ classes. with_superclasses records k classes) h ∙ stays records found h k

pub none_left : (records : List ClassRec) (n i : ℕ) (items whole : List (List ℕ))
    → with_superclasses records (n - i) items ≡ whole → n ≤ i → items ≡ whole
none_left records n i items whole h past =
    let e : zero ≡ n - i = omega arith in
    ap (λ k. with_superclasses records k items) e ∙ h

pub none_new : (records : List ClassRec) (n i : ℕ) (items more whole : List (List ℕ))
    → with_superclasses records (n - i) items ≡ whole
    → more ≡ with_new items (flat_map (superclasses records) items) → length more ≡ length items → more ≡ whole
none_new records n i items more whole h e same =
    let last : with_new items (flat_map (superclasses records) items) ≡ items =
    no_longer items (flat_map (superclasses records) items) (sym (ap length e) ∙ same) in
    e ∙ last ∙ sym (stays records items last (n - i)) ∙ h
