-- Tests over numbers in a row and over optional values, and where octets stand in a text.
use Rattle.std.proofs.Common.{◌≡◌, ◌+◌, ◌<◌, ◌≤◌, ℕ, zero, suc, Bool, true, false, List, ◌++◌, Option, None, Some}
use Rattle.std.proofs.Common.{◌⊎◌, drop, length, take, refl, sym, ap, ◌∙◌, subst, arith, ⊎_elim, inl, inr}
use Rattle.std.proofs.Common.{length-append}
use Rattle.std.specs.List.{list_any, range_with_len}
use Rattle.std.specs.Option.{option_map_or}
use Rattle.std.proofs.lemmas.Bool.{cases_order, eq-eqb, eqb-true, false≢true, or_cases, or_left, or_right}
use Rattle.std.proofs.lemmas.List.{drop_at, length-take-le, take-append-drop, take_at}
use Rattle.std.proofs.lemmas.Slice.Eq.{bytes_eq-Decides}
use Rattle.term_values.specs.MatchingPieces.{IsPlaced, StandAt}
use Rattle.term_model.specs.MatchTests.{is_placed, stand_at}

pub range_any : (f : ℕ → Bool) (a n : ℕ) → list_any f (range_with_len a n) ≡ true
    → (k : ℕ) × (a ≤ k) × (k < a + n) × (f k ≡ true)
range_any f a zero e = absurd (false≢true e)
range_any f a (suc n) e =
    ⊎_elim
    (λ (here : f a ≡ true). (a, omega arith, omega arith, here))
    (λ (there : list_any f (range_with_len (a + 1) n) ≡ true).
    let found = range_any f (a + 1) n there in
    let low = found.1 in
    let high = found.2 in
    (found.0, omega arith, omega arith, found.3))
    (or_cases _ _ e)

same_or_less : (a k : ℕ) → a ≤ k → (a ≡ k) ⊎ (a < k)
same_or_less a k low =
    ⊎_elim
    (λ (same : a ≡ k). inl same)
    (λ (other : (a < k) ⊎ (k < a)).
    ⊎_elim (λ (less : a < k). inr less) (λ (more : k < a). absurd (omega arith)) other)
    (cases_order a k)

pub any_range : (f : ℕ → Bool) (a n k : ℕ) → a ≤ k → k < a + n → f k ≡ true → list_any f (range_with_len a n) ≡ true
any_range f a zero k low high e = absurd (omega arith)
any_range f a (suc n) k low high e =
    ⊎_elim
    (λ (here : a ≡ k). or_left _ _ (subst (λ (i : ℕ). f i ≡ true) (sym here) e))
    (λ (there : a < k). or_right _ _ (any_range f (a + 1) n k (omega arith) (omega arith) e))
    (same_or_less a k low)

pub option_true : {X : Type 0} (f : X → Bool) (o : Option X) → option_map_or f o false ≡ true
    → (x : X) × (o ≡ Some x) × (f x ≡ true)
option_true f None e = absurd (false≢true e)
option_true f (Some x) e = (x, refl, e)

pub true_option : {X : Type 0} (f : X → Bool) (o : Option X) (x : X) → o ≡ Some x → f x ≡ true
    → option_map_or f o false ≡ true
true_option f o x is e = ap (λ p. option_map_or f p false) is ∙ e

-- the octets stand at a place within the text
pub stands_at : (text : List ℕ) (place : ℕ) (octets : List ℕ) → place ≤ length text → stand_at text place octets ≡ true
    → StandAt text place octets
stands_at text place octets within e =
    let same : take (length octets) (drop place text) ≡ octets = (bytes_eq-Decides _ octets).0 e in
    let behind = drop (length octets) (drop place text) in (
      take place text,
      behind,
      sym (ap (λ (xs : List ℕ). take place text ++ xs)
          (ap (λ (xs : List ℕ). xs ++ behind) (sym same) ∙ take-append-drop (length octets) (drop place text))
          ∙ take-append-drop place text),
      length-take-le place text within,
    )

pub at_stands : (text : List ℕ) (place : ℕ) (octets : List ℕ) → StandAt text place octets
    → stand_at text place octets ≡ true
at_stands text place octets h =
    let before = h.0 in
    let after = h.1 in
    let rest : drop place text ≡ octets ++ after =
    ap (drop place) h.2 ∙ drop_at before (octets ++ after) place h.3 in
    (bytes_eq-Decides _ octets).1 (ap (take (length octets)) rest ∙ take_at octets after (length octets) refl)

pub within_text : (text : List ℕ) (place : ℕ) (octets : List ℕ) → StandAt text place octets → place ≤ length text
within_text text place octets h = omega (arith, h.3, ap length h.2, length-append h.0 (octets ++ h.1))

pub placed_is : (kind place end size : ℕ) → is_placed kind place end size ≡ true → IsPlaced kind place end size
placed_is zero place end size e = eqb-true place 0 e
placed_is (suc zero) place end size e = tt
placed_is (suc (suc zero)) place end size e = eqb-true end size e
placed_is (suc (suc (suc kind))) place end size e = false≢true e

pub is_then_placed : (kind place end size : ℕ) → IsPlaced kind place end size → is_placed kind place end size ≡ true
is_then_placed zero place end size h = eq-eqb place 0 h
is_then_placed (suc zero) place end size h = refl
is_then_placed (suc (suc zero)) place end size h = eq-eqb end size h
is_then_placed (suc (suc (suc kind))) place end size h = absurd h
