-- NotingTexts: of what was noted before and the texts of a set the first is kept: of one text, of none, of two sets and
-- of the elements of a list.
use Rattle.std.proofs.Common.{◌≡◌, ◌⊎◌, ◌∙◌, ◌<◌, ◌≤◌, ℕ, zero, suc, List, [], ◌∷◌, ◌++◌, Option, Some}
use Rattle.std.proofs.Common.{refl, sym, inl, inr, ap, arith, length}
use Rattle.std.specs.Prelude.{IfSome, slice_get, unwrap_or}
use Rattle.std.proofs.Math.Path.{subst}
use Rattle.filled_syntaxes.specs.NotedTexts.{EachText, EitherText, IsNoLater, KeepsText, NotesTexts, TextSet, ThisText}
use Rattle.filled_syntaxes.specs.NotedTexts.IsNoLater.{earlier_document, same_document}
use Rattle.filled_syntaxes.specs.declared.bad_texts.TextPlace.{TextPlace}

pub one_text : (before : Option TextPlace) (place result : TextPlace) → (result ≡ place) ⊎ (before ≡ Some result) →
    IsNoLater result place → IfSome before (λ other. IsNoLater result other) →
    NotesTexts (ThisText place.document place.token) before (Some result)
one_text before place result one late least = record {
  there = λ x is. elim one as (λ _. (before ≡ Some x) ⊎ ThisText place.document place.token x) [
    | inl here ↦ (let same : place ≡ x = sym here ∙ ap (λ z. unwrap_or z x) is in
        inr (ap (λ (y : TextPlace). y.document) same, ap (λ (y : TextPlace). y.token) same))
    | inr here ↦ inl (here ∙ is)
  ];
  kept = λ x is. (result, refl, subst (λ o. IfSome o (λ other. IsNoLater result other)) is least);
  least = λ other is. (result, refl, told_late result place other is.0 is.1 late);
}
  where
    told_late : (x place other : TextPlace) → place.document ≡ other.document → place.token ≡ other.token →
        IsNoLater x place → IsNoLater x other
    told_late x place other d t (earlier_document h) = earlier_document (subst (λ z. x.document < z) d h)
    told_late x place other d t (same_document e h) = same_document (e ∙ d) (subst (λ z. x.token ≤ z) t h)

-- ---- the order of texts

pub no_later : {x y z : TextPlace} → IsNoLater x y → IsNoLater y z → IsNoLater x z
no_later (earlier_document h) (earlier_document i) = earlier_document (omega (arith, h, i))
no_later (earlier_document h) (same_document e i) = earlier_document (omega (arith, h, e))
no_later (same_document e h) (earlier_document i) = earlier_document (omega (arith, e, i))
no_later (same_document e h) (same_document f i) = same_document (e ∙ f) (omega (arith, h, i))

-- ---- none, and sets with the same texts

pub none_noted : (Texts : TextSet) (before : Option TextPlace) → ((place : TextPlace) → ¬ Texts place) →
    NotesTexts Texts before before
none_noted Texts before none_there = record {
  there = λ x is. inl is;
  kept = λ x is. (x, is, same_document refl (omega arith));
  least = λ place text. absurd (none_there place text);
}

pub noted_by : (One Other : TextSet) {before after : Option TextPlace} → ((place : TextPlace) → One place → Other place) →
    ((place : TextPlace) → Other place → One place) → NotesTexts One before after → NotesTexts Other before after
noted_by One Other {before = before} to from h = record {
  there = λ x is. elim (h.there x is) as (λ _. (before ≡ Some x) ⊎ Other x) [
    | inl here ↦ inl here
    | inr here ↦ inr (to x here)
  ];
  kept = h.kept;
  least = λ place text. h.least place (from place text);
}

-- a text that is in a set, which has no other
pub one_noted : (Texts : TextSet) (document token : ℕ) {before after : Option TextPlace} →
    ((place : TextPlace) → ThisText document token place → Texts place) →
    ((place : TextPlace) → Texts place → ThisText document token place) →
    NotesTexts (ThisText document token) before after → NotesTexts Texts before after
one_noted Texts document token to from h = noted_by (ThisText document token) Texts to from h

-- ---- two sets

pub both_noted : (One Other : TextSet) {before between after : Option TextPlace} → NotesTexts One before between →
    NotesTexts Other between after → NotesTexts (EitherText One Other) before after
both_noted One Other {before = before} {after = after} p q = record {
  there = λ x is. elim (q.there x is) as (λ _. (before ≡ Some x) ⊎ EitherText One Other x) [
    | inl here ↦ elim (p.there x here) as (λ _. (before ≡ Some x) ⊎ EitherText One Other x) [
      | inl own ↦ inl own
      | inr own ↦ inr (inl own)
    ]
    | inr here ↦ inr (inr here)
  ];
  kept = λ x is. (let y = p.kept x is in let z = q.kept y.0 y.1 in (z.0, z.1, no_later z.2 y.2));
  least = λ place text. elim text as (λ _. KeepsText after place) [
    | inl here ↦ (let y = p.least place here in let z = q.kept y.0 y.1 in (z.0, z.1, no_later z.2 y.2))
    | inr here ↦ q.least place here
  ];
}

-- ---- the elements of a list

pub none_each : {X : Type 0} (Texts : ℕ → X → TextSet) (before : Option TextPlace) →
    NotesTexts (EachText Texts []) before before
none_each Texts before = none_noted (EachText Texts []) before (λ place text. none_got text.0 text.1.0 text.1.1)
  where
    none_got : {X : Type 0} (k : ℕ) (x : X) → slice_get [] k ≡ Some x → ⊥
    none_got k x is = absurd (cc)

pub get_front : {X : Type 0} (xs : List X) (y : X) (k : ℕ) (x : X) → slice_get xs k ≡ Some x →
    slice_get (xs ++ y ∷ []) k ≡ Some x
get_front [] y k x is = absurd (cc)
get_front (z ∷ zs) y zero x is = is
get_front (z ∷ zs) y (suc k) x is = get_front zs y k x is

pub get_last : {X : Type 0} (xs : List X) (y : X) → slice_get (xs ++ y ∷ []) (length xs) ≡ Some y
get_last [] y = refl
get_last (z ∷ zs) y = get_last zs y

pub get_cases : {X : Type 0} (xs : List X) (y : X) (k : ℕ) (x : X) → slice_get (xs ++ y ∷ []) k ≡ Some x →
    (slice_get xs k ≡ Some x) ⊎ ((k ≡ length xs) × (y ≡ x))
get_cases [] y zero x is = inr (refl, ap (λ z. unwrap_or z y) is)
get_cases [] y (suc k) x is = absurd (cc)
get_cases (z ∷ zs) y zero x is = inl is
get_cases (z ∷ zs) y (suc k) x is = deeper (get_cases zs y k x is)
  where
    deeper : (slice_get zs k ≡ Some x) ⊎ ((k ≡ length zs) × (y ≡ x)) →
        (slice_get (z ∷ zs) (suc k) ≡ Some x) ⊎ ((suc k ≡ length (z ∷ zs)) × (y ≡ x))
    deeper (inl h) = inl h
    deeper (inr h) = inr (ap suc h.0, h.1)

pub each_push : {X : Type 0} (Texts : ℕ → X → TextSet) (xs : List X) (x : X) {before between after : Option TextPlace} →
    NotesTexts (EachText Texts xs) before between → NotesTexts (Texts (length xs) x) between after →
    NotesTexts (EachText Texts (xs ++ x ∷ [])) before after
each_push Texts xs x p q = noted_by (EitherText (EachText Texts xs) (Texts (length xs) x)) (EachText Texts (xs ++ x ∷ []))
    (λ place text. elim text as (λ _. EachText Texts (xs ++ x ∷ []) place) [
      | inl here ↦ (here.0, (here.1.0, get_front xs x here.0 here.1.0 here.1.1, here.1.2))
      | inr here ↦ (length xs, (x, get_last xs x, here))
    ])
    (λ place text. elim (get_cases xs x text.0 text.1.0 text.1.1) as
    (λ _. EitherText (EachText Texts xs) (Texts (length xs) x) place) [
      | inl here ↦ inl (text.0, (text.1.0, here, text.1.2))
      | inr here ↦ inr (subst (λ y. Texts (length xs) y place) (sym here.1)
          (subst (λ k. Texts k text.1.0 place) here.0 text.1.2))
    ])
    (both_noted (EachText Texts xs) (Texts (length xs) x) p q)
