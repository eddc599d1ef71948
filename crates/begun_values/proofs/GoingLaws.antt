-- GoingLaws: elements that are told by those of another list, one after the other, and the first names of them.
use Rattle.std.proofs.Common.{◌≡◌, ◌∙◌, ◌<◌, ◌≤◌, ◌+◌, ℕ, zero, suc, List, [], ◌∷◌, ◌++◌, None, Some}
use Rattle.std.proofs.Common.{refl, sym, ap, arith, inl, inr, drop, get_or, length, map, slice_get, subst, take}
use Rattle.std.specs.Prelude.{flat_map}
use Rattle.std.proofs.lemmas.List.{append-nil, append_assoc, take_all}
use Rattle.std.proofs.lemmas.Option.{same_Some}
use Rattle.gdmo_names.specs.InStep.{AreEach}
use Rattle.gdmo_begun_names.specs.declared.begun_names.BegunNames.{BegunNames}
use Rattle.gdmo_begun_names.specs.BegunMarks.{AnyFirst, FirstSet, Marks}
use Rattle.gdmo_begun_names.proofs.MarkLaws.{both_marked, marked_by, more, none_marked}
use Rattle.begun_values.specs.SectionValues.{GoesOn}
use Rattle.begun_values.proofs.ListedLaws.{marked_append}

pub goes_none : {A B : Type 0} (Is : A → B → Type 0) (F : A → FirstSet) (told : List B) (at : ℕ)
    (names : BegunNames) → GoesOn Is F [] told at at names names
goes_none Is F told at names = record {
  rest = λ ys h. h;
  marks = λ ys h. none_marked (AnyFirst F []) names (λ t none_there. none_there);
}

pub goes_both : {A B : Type 0} (Is : A → B → Type 0) (F : A → FirstSet) (xs ys : List A) (told : List B)
    (at between next : ℕ) {one other last : BegunNames} → GoesOn Is F xs told at between one other →
    GoesOn Is F ys told between next other last → GoesOn Is F (xs ++ ys) told at next one last
goes_both Is F xs ys told at between next p q = record {
  rest = λ zs h. q.rest zs (p.rest (ys ++ zs) (regrouped zs h));
  marks = λ zs h. marked_append F xs ys (both_marked (AnyFirst F xs) (AnyFirst F ys)
      (p.marks (ys ++ zs) (regrouped zs h)) (q.marks zs (p.rest (ys ++ zs) (regrouped zs h))));
}
  where
    regrouped : (zs : List _) → AreEach Is ((xs ++ ys) ++ zs) (drop at told) →
        AreEach Is (xs ++ (ys ++ zs)) (drop at told)
    regrouped zs h = subst (λ ws. AreEach Is ws (drop at told)) (append_assoc xs ys zs) h

-- one that is told
told_parts : {B : Type 0} (told : List B) (at : ℕ) (y : B) → slice_get told at ≡ Some y →
    drop at told ≡ y ∷ drop (at + 1) told
told_parts [] at y h = absurd (cc)
told_parts (x ∷ xs) zero y h = let e : x ≡ y = same_Some x y h in ap (λ z. z ∷ xs) e
told_parts (x ∷ xs) (suc at) y h =
    let further : suc (at + 1) ≡ suc at + 1 = omega arith in
    told_parts xs at y h ∙ ap (λ n. y ∷ drop n (x ∷ xs)) further

marked_alone : {X : Type 0} (F : X → FirstSet) (x : X) {before after : BegunNames} → Marks (F x) before after →
    Marks (AnyFirst F (x ∷ [])) before after
marked_alone F x h = marked_by (F x) (AnyFirst F (x ∷ [])) (λ t o. inl o) (λ t a. elim a as (λ _. F x t) [
  | inl here ↦ here
  | inr there ↦ absurd there
]) h

pub goes_one : {A B : Type 0} (Is : A → B → Type 0) (F : A → FirstSet) (x : A) (y : B) (told : List B) (at : ℕ)
    {before after : BegunNames} → slice_get told at ≡ Some y → (Is x y → Marks (F x) before after) →
    GoesOn Is F (x ∷ []) told at (at + 1) before after
goes_one Is F x y told at found marked = record {
  rest = λ zs h. (parted zs h).1;
  marks = λ zs h. marked_alone F x (marked (parted zs h).0);
}
  where
    parted : (zs : List _) → AreEach Is (x ∷ zs) (drop at told) → Is x y × AreEach Is zs (drop (at + 1) told)
    parted zs h = subst (AreEach Is (x ∷ zs)) (told_parts told at y found) h

-- one that isn't
past_told : {B : Type 0} (told : List B) (at : ℕ) → slice_get told at ≡ None → drop at told ≡ []
past_told [] zero h = refl
past_told [] (suc at) h = refl
past_told (x ∷ xs) zero h = absurd (cc)
past_told (x ∷ xs) (suc at) h = past_told xs at h

pub goes_past : {A B : Type 0} (Is : A → B → Type 0) (F : A → FirstSet) (x : A) (told : List B) (at next : ℕ)
    {before after : BegunNames} → slice_get told at ≡ None → GoesOn Is F (x ∷ []) told at next before after
goes_past Is F x told at next gone = record {
  rest = λ zs h. absurd (never zs h);
  marks = λ zs h. absurd (never zs h);
}
  where
    never : (zs : List _) → AreEach Is (x ∷ zs) (drop at told) → ⊥
    never zs h = subst (AreEach Is (x ∷ zs)) (past_told told at gone) h

-- ---- loops

map_last : {X A : Type 0} (view : X → A) (xs : List X) (x : X) → map view (xs ++ x ∷ []) ≡ map view xs ++ view x ∷ []
map_last view [] x = refl
map_last view (y ∷ ys) x = ap (λ zs. view y ∷ zs) (map_last view ys x)

pub goes_map_begin : {X A B : Type 0} (Is : A → B → Type 0) (F : A → FirstSet) (view : X → A) (xs : List X)
    (told : List B) (at : ℕ) (names : BegunNames) → GoesOn Is F (map view (take 0 xs)) told at at names names
goes_map_begin Is F view [] told at names = goes_none Is F told at names
goes_map_begin Is F view (x ∷ xs) told at names = goes_none Is F told at names

pub goes_map_step : {X A B : Type 0} (Is : A → B → Type 0) (F : A → FirstSet) (view : X → A) (xs : List X) (i : ℕ)
    (x : X) (told : List B) (at between next : ℕ) {one other last : BegunNames} → i < length xs → x ≡ get_or xs i x →
    GoesOn Is F (map view (take i xs)) told at between one other →
    GoesOn Is F (view x ∷ []) told between next other last →
    GoesOn Is F (map view (take (i + 1) xs)) told at next one last
goes_map_step Is F view xs i x told at between next {one = one} {last = last} within is p q =
    subst (λ ys. GoesOn Is F ys told at next one last)
    (sym (ap (map view) (more xs i x within is) ∙ map_last view (take i xs) x))
    (goes_both Is F (map view (take i xs)) (view x ∷ []) told at between next p q)

pub goes_map_end : {X A B : Type 0} (Is : A → B → Type 0) (F : A → FirstSet) (view : X → A) (xs : List X) (i : ℕ)
    (told : List B) (at next : ℕ) {one last : BegunNames} → length xs ≤ i →
    GoesOn Is F (map view (take i xs)) told at next one last → GoesOn Is F (map view xs) told at next one last
goes_map_end Is F view xs i told at next {one = one} {last = last} past h =
    subst (λ ys. GoesOn Is F (map view ys) told at next one last) (take_all i xs past) h

flat_last : {X A : Type 0} (view : X → List A) (xs : List X) (x : X) →
    flat_map view (xs ++ x ∷ []) ≡ flat_map view xs ++ view x
flat_last view [] x = append-nil (view x)
flat_last view (y ∷ ys) x =
    ap (λ zs. view y ++ zs) (flat_last view ys x) ∙ sym (append_assoc (view y) (flat_map view ys) (view x))

pub goes_flat_begin : {X A B : Type 0} (Is : A → B → Type 0) (F : A → FirstSet) (view : X → List A) (xs : List X)
    (told : List B) (at : ℕ) (names : BegunNames) → GoesOn Is F (flat_map view (take 0 xs)) told at at names names
goes_flat_begin Is F view [] told at names = goes_none Is F told at names
goes_flat_begin Is F view (x ∷ xs) told at names = goes_none Is F told at names

pub goes_flat_step : {X A B : Type 0} (Is : A → B → Type 0) (F : A → FirstSet) (view : X → List A) (xs : List X)
    (i : ℕ) (x : X) (told : List B) (at between next : ℕ) {one other last : BegunNames} → i < length xs →
    x ≡ get_or xs i x → GoesOn Is F (flat_map view (take i xs)) told at between one other →
    GoesOn Is F (view x) told between next other last →
    GoesOn Is F (flat_map view (take (i + 1) xs)) told at next one last
goes_flat_step Is F view xs i x told at between next {one = one} {last = last} within is p q =
    subst (λ ys. GoesOn Is F ys told at next one last)
    (sym (ap (flat_map view) (more xs i x within is) ∙ flat_last view (take i xs) x))
    (goes_both Is F (flat_map view (take i xs)) (view x) told at between next p q)

-- all of them
pub goes_all : {X A B : Type 0} (Is : A → B → Type 0) (F : A → FirstSet) (view : X → List A) (xs : List X) (i : ℕ)
    (told : List B) (next : ℕ) {one last : BegunNames} → length xs ≤ i →
    GoesOn Is F (flat_map view (take i xs)) told 0 next one last → AreEach Is (flat_map view xs) told →
    Marks (AnyFirst F (flat_map view xs)) one last
goes_all Is F view xs i told next {one = one} {last = last} past h each =
    let whole = subst (λ ys. GoesOn Is F (flat_map view ys) told 0 next one last) (take_all i xs past) h in
    whole.marks [] (subst (λ ys. AreEach Is ys told) (sym (append-nil (flat_map view xs))) each)
