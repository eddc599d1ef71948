-- Where availabilityStatus stands: taking logFull out of the attributes there takes it out of all.
use Rattle.std.proofs.Common.{◌≡◌, ℕ, zero, suc, ◌<◌, ◌≤◌, Bool, true, false, List, [], ◌∷◌, refl, sym, ap, ◌∙◌, arith}
use Rattle.std.proofs.Common.{get_or, length, set}
use Rattle.std.specs.Prelude.{codes, if◌then◌else◌, map}
use Rattle.term_values.specs.Typed.{TypedValue}
use Rattle.term_model.specs.declared.object.Attribute.{Attribute}
use Rattle.term_model.specs.declared.schema.AttrRec.{AttrRec}
use Rattle.term_model.specs.ClassAttributes.{is_labelled}
use Rattle.term_model.specs.Comparing.{is_same_oid}
use Rattle.term_model.specs.Modifications.{replaced, without_full}
use Rattle.attribute_rules.proofs.PlaceLaws.{behind_replaced, first_replaced}
use Rattle.object_modifications.specs.Settling.{ends_full_by, freed_by}
use Rattle.object_modifications.specs.StatusPlaces.{full_taken, full_taken_at, status_places}

abbrev is_status : List AttrRec → List ℕ → Bool
is_status records id = is_labelled records (codes "availabilityStatus") id

-- ---- one place

pub at_place : (records : List AttrRec) (place : ℕ) (xs : List Attribute) (d : Attribute) → place < length xs
    → set xs place (without_full records (get_or xs place d)) ≡ full_taken_at records place xs
at_place records place [] d h = absurd (omega (arith, h))
at_place records zero (x ∷ xs) d h = refl
at_place records (suc place) (x ∷ xs) d h = ap (λ ys. x ∷ ys) (at_place records place xs d (omega (arith, h)))

pub past_place : (records : List AttrRec) (place : ℕ) (xs : List Attribute) → length xs ≤ place
    → full_taken_at records place xs ≡ xs
past_place records place [] h = refl
past_place records zero (x ∷ xs) h = absurd (omega (arith, h))
past_place records (suc place) (x ∷ xs) h = ap (λ ys. x ∷ ys) (past_place records place xs (omega (arith, h)))

-- ---- all places

-- what stands first, and behind it
pub first_status : (records : List AttrRec) (n : ℕ) (x : Attribute) (xs : List Attribute)
    → is_status records x.id ≡ true → status_places records n (x ∷ xs) ≡ n ∷ status_places records (suc n) xs
first_status records n x xs e = rw e refl

pub first_other : (records : List AttrRec) (n : ℕ) (x : Attribute) (xs : List Attribute)
    → is_status records x.id ≡ false → status_places records n (x ∷ xs) ≡ status_places records (suc n) xs
first_other records n x xs e = rw e refl

-- places that are counted from one more
pub places_on : (records : List AttrRec) (n : ℕ) (xs : List Attribute)
    → status_places records (suc n) xs ≡ map suc (status_places records n xs)
places_on records n [] = refl
places_on records n (x ∷ xs) = by (is_status records x.id) (places_on records (suc n) xs)
  where
    by : (b : Bool) → status_places records (suc (suc n)) xs ≡ map suc (status_places records (suc n) xs)
        → (if b then suc n ∷ status_places records (suc (suc n)) xs else status_places records (suc (suc n)) xs)
        ≡ map suc (if b then n ∷ status_places records (suc n) xs else status_places records (suc n) xs)
    by true e = ap (λ places. suc n ∷ places) e
    by false e = e

behind_taken : (records : List AttrRec) (places : List ℕ) (x : Attribute) (xs : List Attribute)
    → full_taken records (map suc places) (x ∷ xs) ≡ x ∷ full_taken records places xs
behind_taken records [] x xs = refl
behind_taken records (place ∷ places) x xs = behind_taken records places x (full_taken_at records place xs)

pub stays : (records : List AttrRec) (x : Attribute) → is_status records x.id ≡ false → without_full records x ≡ x
stays records x e = rw e refl

pub all_taken : (records : List AttrRec) (xs : List Attribute)
    → full_taken records (status_places records 0 xs) xs ≡ map (without_full records) xs
all_taken records [] = refl
all_taken records (x ∷ xs) = by_test (is_status records x.id) refl (all_taken records xs)
  where
    rest : (y : Attribute) → full_taken records (status_places records 0 xs) xs ≡ map (without_full records) xs
        → full_taken records (status_places records 1 xs) (y ∷ xs) ≡ y ∷ map (without_full records) xs
    rest y e =
        ap (λ places. full_taken records places (y ∷ xs)) (places_on records 0 xs)
        ∙ behind_taken records (status_places records 0 xs) y xs ∙ ap (λ ys. y ∷ ys) e

    by_test : (b : Bool) → is_status records x.id ≡ b
        → full_taken records (status_places records 0 xs) xs ≡ map (without_full records) xs
        → full_taken records (status_places records 0 (x ∷ xs)) (x ∷ xs) ≡ map (without_full records) (x ∷ xs)
    by_test true is e =
        ap (λ places. full_taken records places (x ∷ xs)) (first_status records 0 x xs is)
        ∙ rest (without_full records x) e
    by_test false is e =
        ap (λ places. full_taken records places (x ∷ xs)) (first_other records 0 x xs is) ∙ rest x e
        ∙ ap (λ y. y ∷ map (without_full records) xs) (sym (stays records x is))

-- ---- attributes with other values

pub replaced_places : (records : List AttrRec) (n : ℕ) (id : List ℕ) (value : TypedValue) (xs : List Attribute)
    → status_places records n (replaced id value xs) ≡ status_places records n xs
replaced_places records n id value [] = refl
replaced_places records n id value (x ∷ xs) =
    by_test (is_same_oid x.id id) refl (replaced_places records (suc n) id value xs)
  where
    by_test : (b : Bool) → is_same_oid x.id id ≡ b
        → status_places records (suc n) (replaced id value xs) ≡ status_places records (suc n) xs
        → status_places records n (replaced id value (x ∷ xs)) ≡ status_places records n (x ∷ xs)
    by_test true same rest = ap (status_places records n) (first_replaced x xs id value same)
    by_test false differs rest =
        ap (status_places records n) (behind_replaced x xs id value differs)
        ∙ ap (λ places. if is_status records x.id then n ∷ places else places) rest

pub mapped_places : (records : List AttrRec) (f : Attribute → Attribute) → ((x : Attribute) → (f x).id ≡ x.id)
    → (n : ℕ) (xs : List Attribute) → status_places records n (map f xs) ≡ status_places records n xs
mapped_places records f same n [] = refl
mapped_places records f same n (x ∷ xs) =
    ap
    (λ id.
    if is_status records id then n ∷ status_places records (suc n) (map f xs)
    else status_places records (suc n) (map f xs))
    (same x)
    ∙ ap (λ places. if is_status records x.id then n ∷ places else places) (mapped_places records f same (suc n) xs)

-- ---- where it is taken away

pub freed_full : (records : List AttrRec) (bound : Bool) (id places : List ℕ) (xs : List Attribute)
    → ends_full_by records bound id ≡ true → places ≡ status_places records 0 xs
    → full_taken records places xs ≡ freed_by records bound id xs
freed_full records bound id places xs ends is =
    ap (λ ps. full_taken records ps xs) is ∙ all_taken records xs ∙ sym (freed records bound id xs ends)
  where
    freed : (records : List AttrRec) (bound : Bool) (id : List ℕ) (xs : List Attribute)
        → ends_full_by records bound id ≡ true → freed_by records bound id xs ≡ map (without_full records) xs
    freed records bound id xs e = rw e refl

pub freed_other : (records : List AttrRec) (bound : Bool) (id : List ℕ) (xs : List Attribute)
    → ends_full_by records bound id ≡ false → xs ≡ freed_by records bound id xs
freed_other records bound id xs e = rw e refl
