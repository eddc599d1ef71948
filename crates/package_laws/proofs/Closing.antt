-- After as many rounds as there are records, the superclasses of each class that was found are found. A round that
-- finds no further class with a record is the last that adds a class. Each other round leaves fewer records of classes
-- that were not found.
use Rattle.std.proofs.Common.{◌≡◌, ◌⊎◌, ◌<◌, ℕ, zero, suc, Bool, true, false, List, [], ◌∷◌, length, refl, sym}
use Rattle.std.proofs.Common.{ap, ◌∙◌, subst, arith, inl, inr}
use Rattle.std.proofs.lemmas.Bool.{false≢true}
use Rattle.std.specs.Prelude.{Contains, flat_map, if◌then◌else◌}
use Rattle.term_model.specs.declared.schema.ClassRec.{ClassRec}
use Rattle.term_model.specs.declared.schema.Set.{Set}
use Rattle.term_model.specs.PresentPackages.{classes_above, is_among, superclasses, with_superclasses}
use Rattle.package_laws.proofs.Members.{first_or_later, flat_map_from, flat_map_gets, is_among_Decides, nowhere}
use Rattle.package_laws.proofs.Records.{stated_from}
use Rattle.package_laws.proofs.Rounds.{added, kept, next, none_added, stays}

-- with each of these classes its superclasses are among them
abbrev pub IsClosed : Set → List (List ℕ) → Type 0
IsClosed schema classes = (class further : List ℕ) → Contains classes class
    → Contains (superclasses schema.classes class) further → Contains classes further

-- how many records are those of classes that were not found
abbrev pub left : List (List ℕ) → List ClassRec → ℕ
left found [] = 0
left found (first ∷ others) = if is_among found first.id then left found others else suc (left found others)

-- of the classes of these records, those that are among more were found before
abbrev NoneMore : List (List ℕ) → List (List ℕ) → List ClassRec → Type 0
NoneMore found more records = (of_class : ClassRec) → Contains records of_class → Contains more of_class.id
    → Contains found of_class.id

-- fewer records are left, or the same ones
abbrev Progress : List (List ℕ) → List (List ℕ) → List ClassRec → ℕ → ℕ → Type 0
Progress found more records after before = (after < before) ⊎ ((after ≡ before) × NoneMore found more records)

progress : (found more : List (List ℕ)) → ((id : List ℕ) → Contains found id → Contains more id)
    → (records : List ClassRec) → Progress found more records (left more records) (left found records)
progress found more grows [] = inr (refl, λ of_class at named. absurd (nowhere of_class at))
progress found more grows (first ∷ others) =
    by_tests (is_among found first.id) (is_among more first.id) refl refl (progress found more grows others)
  where
    in_found : is_among found first.id ≡ true → NoneMore found more others → NoneMore found more (first ∷ others)
    in_found e none of_class at named =
        elim (first_or_later first of_class others at) [
          | inl same ↦ subst (λ r. Contains found r.id) same ((is_among_Decides found first.id).0 e)
          | inr later ↦ none of_class later named
        ]

    in_none : is_among more first.id ≡ false → NoneMore found more others → NoneMore found more (first ∷ others)
    in_none e none of_class at named =
        elim (first_or_later first of_class others at) [
          | inl same ↦ absurd (false≢true (sym e
              ∙ (is_among_Decides more first.id).1 (subst (λ r. Contains more r.id) (sym same) named)))
          | inr later ↦ none of_class later named
        ]

    by_tests : (b c : Bool) → is_among found first.id ≡ b → is_among more first.id ≡ c
        → Progress found more others (left more others) (left found others)
        → Progress found more (first ∷ others) (if c then left more others else suc (left more others))
        (if b then left found others else suc (left found others))
    by_tests true true e f (inl fewer) = inl fewer
    by_tests true true e f (inr same) = inr (same.0, in_found e same.1)
    by_tests true false e f h = absurd (false≢true (sym f
        ∙ (is_among_Decides more first.id).1 (grows first.id ((is_among_Decides found first.id).0 e))))
    by_tests false true e f (inl fewer) = inl (omega arith)
    by_tests false true e f (inr same) = inl (omega (arith, same.0))
    by_tests false false e f (inl fewer) = inl (omega arith)
    by_tests false false e f (inr same) = inr (ap suc same.0, in_none f same.1)

-- ---- rounds

-- a round that finds no further class with a record finds all superclasses
last_round : (schema : Set) (found : List (List ℕ)) → NoneMore found (next schema.classes found) schema.classes
    → IsClosed schema (next schema.classes found)
last_round schema found none class further at from =
    let of_class = stated_from (λ r. r.superclasses) schema class further from in
    let named = of_class.1.named in
    let before = subst (Contains found) named (none of_class.0 of_class.1.known
    (subst (Contains (next schema.classes found)) (sym named) at)) in
    added found (flat_map (superclasses schema.classes) found) further
    (flat_map_gets (superclasses schema.classes) found class further before from)

closed_stays : (schema : Set) (found : List (List ℕ)) (times : ℕ) → IsClosed schema found
    → IsClosed schema (with_superclasses schema.classes times found)
closed_stays schema found times closed =
    let same = none_added found (flat_map (superclasses schema.classes) found) (λ further at.
    let h = flat_map_from (superclasses schema.classes) found further at in closed h.0 further h.1 h.2) in
    subst (IsClosed schema) (sym (stays schema.classes found same times)) closed

closing : (schema : Set) (times : ℕ) (found : List (List ℕ)) → left found schema.classes < times
    → IsClosed schema (with_superclasses schema.classes times found)
closing schema zero found few = absurd (omega arith)
closing schema (suc times) found few =
    elim (progress found (next schema.classes found)
    (λ id at. kept found (flat_map (superclasses schema.classes) found) id at) schema.classes) [
      | inl fewer ↦ closing schema times (next schema.classes found) (omega arith)
      | inr same ↦ closed_stays schema (next schema.classes found) times (last_round schema found same.1)
    ]

left_first : (records : List ClassRec) → left [] records ≡ length records
left_first [] = refl
left_first (first ∷ others) = ap suc (left_first others)

pub closed : (schema : Set) (class : List ℕ) → IsClosed schema (classes_above schema.classes class)
closed schema class =
    elim (progress [] (class ∷ []) (λ id at. absurd (nowhere id at)) schema.classes) [
      | inl fewer ↦ closing schema (length schema.classes) (class ∷ [])
          (omega (arith, fewer, left_first schema.classes))
      | inr same ↦ closed_stays schema (class ∷ []) (length schema.classes) (λ above further at from.
          let of_class = stated_from (λ r. r.superclasses) schema above further from in
          absurd (nowhere of_class.0.id (same.1 of_class.0 of_class.1.known
          (subst (Contains (class ∷ [])) (sym of_class.1.named) at))))
    ]
