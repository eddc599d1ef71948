-- EmptyLaws: what is left of bounds holds a number exactly where some number is within the bounds of the syntax and of all
-- types (X.680, section 51; X.722, section 8.4).
use Rattle.std.proofs.Common.{◌≡◌, ◌≢◌, ℕ, zero, suc, ◌<◌, ℤ, pos, ◌≤ℤ◌, Bool, true, false, List, [], ◌∷◌, length}
use Rattle.std.proofs.Common.{Option, Some, None, get_or, refl, sym, ap, subst, ◌∙◌, ⊎_elim, true≢false, arith, FitsSigned}
use Rattle.std.specs.Prelude.{◌==◌, ◌&&◌, ◌||◌, int_le, All}
use Rattle.std.specs.Int.{w64}
use Rattle.std.specs.List.{list_all}
use Rattle.std.proofs.Math.Bool.{or-true}
use Rattle.std.proofs.lemmas.Bool.{and_from, and_parts, cases_Bool, eqb-true, eqb-false, ne_eqb}
use Rattle.std.proofs.lemmas.Int.{ints}
use Rattle.std.proofs.lemmas.List.Folds.{list_all_at}
use Rattle.std.proofs.lemmas.Option.{same_Some}
use Rattle.term_values.specs.Bounded.{allowed, one_allows}
use Rattle.term_values.specs.MatchingKinds.{beneath_tags}
use Rattle.term_values.specs.Syntaxes.{Bounds, TypeSyntax}
use Rattle.term_model.specs.WholeRecords.{IsNotEmpty, IsWithin, form_bounds}
use Rattle.permitted_bounds.specs.declared.permitted.Permitted.{Permitted}
use Rattle.permitted_bounds.specs.FormNumbers.{number_of}
use Rattle.permitted_bounds.specs.LeftBounds.{IsLeft, has_form, is_bounded, is_within}

le_true : (a b : ℤ) → a ≤ℤ b → int_le a b ≡ true
le_true a b h = grind (arith, ints)

held_is_one : (xs : Bounds) (i : ℕ) (d : ℤ × ℤ) → i < length xs → (get_or xs i d).0 ≤ℤ (get_or xs i d).1 →
    one_allows xs (get_or xs i d).0 ≡ true
held_is_one [] i d within order = absurd (omega arith)
held_is_one (x ∷ xs) zero d within order =
    ap (λ own. own || one_allows xs x.0) (and_from _ _ (le_true x.0 x.0 (omega (arith, ints))) (le_true x.0 x.1 order))
held_is_one (x ∷ xs) (suc i) d within order =
    let n = (get_or xs i d).0 in
    ap (λ more. int_le x.0 n && int_le n x.1 || more) (held_is_one xs i d (omega arith) order)
    ∙ or-true (int_le x.0 n && int_le n x.1)

-- the least number of a pair that holds some is allowed
pub held_is_allowed : (xs : Bounds) (i : ℕ) (d : ℤ × ℤ) → i < length xs → (get_or xs i d).0 ≤ℤ (get_or xs i d).1 →
    allowed xs (get_or xs i d).0 ≡ true
held_is_allowed (x ∷ xs) i d within order = held_is_one (x ∷ xs) i d within order
held_is_allowed [] i d within order = absurd (omega arith)

-- ---- one type

same_form : (form : ℕ) (n : ℤ) (own : ℕ × Bounds) → own.0 ≡ form → is_bounded form n (Some own) ≡ allowed own.1 n
same_form form n own same = rw (eqb_of own.0 form same) refl
  where
    eqb_of : (a b : ℕ) → a ≡ b → (a == b) ≡ true
    eqb_of a b h = grind (arith)

other_form : (form : ℕ) (n : ℤ) (own : ℕ × Bounds) → own.0 ≢ form → is_bounded form n (Some own) ≡ true
other_form form n own other = rw (ne_eqb own.0 form other) refl

bounded : (form : ℕ) (n : ℤ) (own : Option (ℕ × Bounds)) →
    ((bounds : Bounds) → own ≡ Some (form, bounds) → allowed bounds n ≡ true) → is_bounded form n own ≡ true
bounded form n None within = refl
bounded form n (Some own) within =
    ⊎_elim
    (λ (e : (own.0 == form) ≡ true).
    let same : own.0 ≡ form = eqb-true own.0 form e in
    same_form form n own same ∙ within own.1 (ap (λ f. Some (f, own.1)) same))
    (λ (e : (own.0 == form) ≡ false). other_form form n own (eqb-false own.0 form e))
    (cases_Bool (own.0 == form))

within_bounds : (form : ℕ) (n : ℤ) (own : Option (ℕ × Bounds)) (bounds : Bounds) → is_bounded form n own ≡ true →
    own ≡ Some (form, bounds) → allowed bounds n ≡ true
within_bounds form n own bounds is same =
    sym (same_form form n (form, bounds) refl) ∙ sym (ap (λ o. is_bounded form n o) same) ∙ is

pub test_of_within : (form : ℕ) (n : ℤ) (type : TypeSyntax) → IsWithin form n type → is_within form n type ≡ true
test_of_within form n type within = bounded form n (form_bounds (beneath_tags type)) within

pub within_of_test : (form : ℕ) (n : ℤ) (type : TypeSyntax) → is_within form n type ≡ true → IsWithin form n type
within_of_test form n type is = λ bounds same. within_bounds form n (form_bounds (beneath_tags type)) bounds is same

-- ---- all types

all_pass : (test : TypeSyntax → Bool) (types : List TypeSyntax) →
    ((k : ℕ) (d : TypeSyntax) → k < length types → test (get_or types k d) ≡ true) → list_all test types ≡ true
all_pass test [] each = refl
all_pass test (type ∷ types) each =
    and_from (test type) (list_all test types) (each 0 type (omega arith))
    (all_pass test types (λ k d within. each (suc k) d (omega arith)))

each_passes : (test : TypeSyntax → Bool) (types : List TypeSyntax) → list_all test types ≡ true → (k : ℕ)
    (d : TypeSyntax) → k < length types → test (get_or types k d) ≡ true
each_passes test types all k d within =
    ⊎_elim (λ (e : test (get_or types k d) ≡ true). e)
    (λ (e : test (get_or types k d) ≡ false).
    absurd (true≢false (sym all ∙ list_all_at test types k d within e)))
    (cases_Bool (test (get_or types k d)))

-- ---- what is left

fits_form : (form : ℕ) (n : ℤ) → (form ≢ 0 → pos 0 ≤ℤ n) → has_form form n ≡ true
fits_form form n size =
    ⊎_elim (λ (e : (form == 0) ≡ true). rw e refl)
    (λ (e : (form == 0) ≡ false). rw e (le_true (pos 0) n (size (eqb-false form 0 e))))
    (cases_Bool (form == 0))

form_fits : (form : ℕ) (n : ℤ) → has_form form n ≡ true → form ≢ 0 → pos 0 ≤ℤ n
form_fits form n is other = true_le n (sym (rw (ne_eqb form 0 other) refl) ∙ is)
  where
    true_le : (n : ℤ) → int_le (pos 0) n ≡ true → pos 0 ≤ℤ n
    true_le n h = grind (arith, ints)

-- a number that is left is within all bounds
pub some_is_left : (syntax : TypeSyntax) (types : List TypeSyntax) (left : Permitted) (n : ℤ) → FitsSigned w64 n →
    allowed left.bounds n ≡ true → IsLeft syntax types left → IsNotEmpty syntax types
some_is_left syntax types left n fits is known form bounds own =
    let form_is : form ≡ number_of left.form = ap (λ (p : ℕ × Bounds). p.0) (same_Some _ _ (sym own ∙ known.own)) in
    let all = sym (known.same n fits) ∙ is in
    let front = and_parts _ _ all in
    let two = and_parts _ _ front.0 in
    subst (λ f. (x : ℤ) × FitsSigned w64 x × (f ≢ 0 → pos 0 ≤ℤ x) × IsWithin f x syntax × All (IsWithin f x) types)
    (sym form_is) (
      n,
      fits,
      form_fits (number_of left.form) n two.0,
      within_of_test (number_of left.form) n syntax two.1,
      λ k d within. within_of_test (number_of left.form) n (get_or types k d)
          (each_passes (is_within (number_of left.form) n) types front.1 k d within),
    )

-- where none is left, none is within all bounds
pub none_is_left : (syntax : TypeSyntax) (types : List TypeSyntax) (left : Permitted) →
    ((n : ℤ) → allowed left.bounds n ≡ false) → IsLeft syntax types left → ¬ IsNotEmpty syntax types
none_is_left syntax types left none known some =
    let found = some (number_of left.form) known.bounds known.own in
    let form = number_of left.form in
    true≢false (sym (and_from _ _
    (and_from _ _ (fits_form form found.0 found.2) (test_of_within form found.0 syntax found.3))
    (all_pass (is_within form found.0) types
    (λ k d within. test_of_within form found.0 (get_or types k d) (found.4 k d within))))
    ∙ sym (known.same found.0 found.1) ∙ none found.0)
