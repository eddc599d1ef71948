-- BoundLaws: whether some number is within the bounds of a syntax and of types is decided, since there are finitely
-- many numbers of 64 bits (X.680, section 51).
use Rattle.std.specs.Prelude.{◌≡◌, ◌≢◌, ◌⊎◌, ◌<◌, ℕ, zero, suc, ℤ, pos, negsuc, ◌≤ℤ◌, List, [], ◌∷◌, Bool, true, false}
use Rattle.std.specs.Prelude.{All, FitsSigned, ◌&&◌, ◌==◌, get_or, int_le, length}
use Rattle.std.specs.Int.{w64}
use Rattle.std.specs.List.{list_all}
use Rattle.std.proofs.Common.{◌∙◌, ap, arith, inl, inr, refl, sym, true≢false, ⊎_elim}
use Rattle.std.proofs.lemmas.Bool.{and_from, and_parts, cases_Bool, cases_order, eqb-false, ne_eqb}
use Rattle.std.proofs.lemmas.Int.{ints}
use Rattle.std.proofs.lemmas.List.Folds.{list_all_at}
use Rattle.term_values.specs.Syntaxes.{TypeSyntax}
use Rattle.term_model.specs.WholeRecords.{IsNotEmpty, IsWithin}
use Rattle.permitted_bounds.specs.LeftBounds.{has_form, is_within}
use Rattle.permitted_bounds.proofs.EmptyLaws.{test_of_within, within_of_test}
use Rattle.stated_laws.proofs.DecidingLaws.{unless_not}

-- ---- a search among numbers

-- a number below a bound that passes a test
pub record Passes (test : ℕ → Bool) (bound : ℕ) : Type 0 where
  pub number : ℕ
  pub below : number < bound
  pub passes : test number ≡ true

pub search_below : (test : ℕ → Bool) (bound : ℕ) → Passes test bound ⊎ ((n : ℕ) → n < bound → test n ≡ false)
search_below test zero = inr (λ n below. absurd (omega arith))
search_below test (suc bound) = by (test bound) refl (search_below test bound)
  where
    last : (n : ℕ) → n < suc bound → (¬ (n < bound)) → n ≡ bound
    last n below other = omega arith

    by : (last_test : Bool) → test bound ≡ last_test → Passes test bound ⊎ ((n : ℕ) → n < bound → test n ≡ false) →
        Passes test (suc bound) ⊎ ((n : ℕ) → n < suc bound → test n ≡ false)
    by true is so_far = inl (record { number = bound; below = omega arith; passes = is })
    by false is (inl found) =
        inl (record { number = found.number; below = (let b = found.below in omega (arith, b)); passes = found.passes })
    by false is (inr none_so_far) = inr (λ n below. at n below (cases_order n bound))
      where
        at : (n : ℕ) → n < suc bound → (n ≡ bound) ⊎ ((n < bound) ⊎ (bound < n)) → test n ≡ false
        at n below (inl same) = ap test same ∙ is
        at n below (inr (inl before)) = none_so_far n before
        at n below (inr (inr behind)) = absurd (omega arith)

-- a number of 64 bits that passes a test
pub record PassesWhole (test : ℤ → Bool) : Type 0 where
  pub number : ℤ
  pub fits : FitsSigned w64 number
  pub passes : test number ≡ true

pub search_whole : (test : ℤ → Bool) →
    PassesWhole test ⊎ ((n : ℤ) → FitsSigned w64 n → test n ≡ false)
search_whole test =
    by (search_below (λ n. test (pos n)) 9223372036854775808) (search_below (λ n. test (negsuc n)) 9223372036854775808)
  where
    by : Passes (λ n. test (pos n)) 9223372036854775808
        ⊎ ((n : ℕ) → n < 9223372036854775808 → test (pos n) ≡ false) →
        Passes (λ n. test (negsuc n)) 9223372036854775808
        ⊎ ((n : ℕ) → n < 9223372036854775808 → test (negsuc n) ≡ false) →
        PassesWhole test ⊎ ((n : ℤ) → FitsSigned w64 n → test n ≡ false)
    by (inl found) other =
        inl (record { number = pos found.number; fits = record { sfits = found.below }; passes = found.passes })
    by (inr above) (inl found) =
        inl (record { number = negsuc found.number; fits = record { sfits = found.below }; passes = found.passes })
    by (inr above) (inr below) = inr at
      where
        at : (n : ℤ) → FitsSigned w64 n → test n ≡ false
        at (pos n) fits = above n fits.sfits
        at (negsuc n) fits = below n fits.sfits

-- ---- numbers within bounds

-- what is asked of a number, as a test
abbrev is_left : ℕ → TypeSyntax → List TypeSyntax → ℤ → Bool
is_left form syntax types n = has_form form n && is_within form n syntax && list_all (is_within form n) types

-- the same in the words of `IsNotEmpty`
abbrev IsLeftOver : ℕ → TypeSyntax → List TypeSyntax → Type 0
IsLeftOver form syntax types =
    (n : ℤ) × FitsSigned w64 n × (form ≢ 0 → pos 0 ≤ℤ n) × IsWithin form n syntax × All (IsWithin form n) types

all_pass : (test : TypeSyntax → Bool) (types : List TypeSyntax) →
    ((k : ℕ) (d : TypeSyntax) → k < length types → test (get_or types k d) ≡ true) → list_all test types ≡ true
all_pass test [] each = refl
all_pass test (type ∷ types) each =
    and_from (test type) (list_all test types) (each 0 type (omega arith))
    (all_pass test types (λ k d within. each (suc k) d (omega arith)))

each_passes : (test : TypeSyntax → Bool) (types : List TypeSyntax) → list_all test types ≡ true → (k : ℕ)
    (d : TypeSyntax) → k < length types → test (get_or types k d) ≡ true
each_passes test types all k d within =
    ⊎_elim (λ (e : test (get_or types k d) ≡ true). e)
    (λ (e : test (get_or types k d) ≡ false). absurd (true≢false (sym all ∙ list_all_at test types k d within e)))
    (cases_Bool (test (get_or types k d)))

at_least : (n : ℤ) → pos 0 ≤ℤ n → int_le (pos 0) n ≡ true
at_least n h = grind (arith, ints)

least_at : (n : ℤ) → int_le (pos 0) n ≡ true → pos 0 ≤ℤ n
least_at n h = grind (arith, ints)

fits_form : (form : ℕ) (n : ℤ) → (form ≢ 0 → pos 0 ≤ℤ n) → has_form form n ≡ true
fits_form form n size =
    ⊎_elim (λ (e : (form == 0) ≡ true). rw e refl)
    (λ (e : (form == 0) ≡ false). rw e (at_least n (size (eqb-false form 0 e)))) (cases_Bool (form == 0))

form_fits : (form : ℕ) (n : ℤ) → has_form form n ≡ true → form ≢ 0 → pos 0 ≤ℤ n
form_fits form n is other = least_at n (sym (rw (ne_eqb form 0 other) refl) ∙ is)

left_over : (form : ℕ) (syntax : TypeSyntax) (types : List TypeSyntax) →
    PassesWhole (is_left form syntax types) → IsLeftOver form syntax types
left_over form syntax types found =
    let n = found.number in
    let front = and_parts (has_form form n && is_within form n syntax) (list_all (is_within form n) types)
    found.passes in
    let two = and_parts (has_form form n) (is_within form n syntax) front.0 in (
      n,
      found.fits,
      form_fits form n two.0,
      within_of_test form n syntax two.1,
      λ k d within. within_of_test form n (get_or types k d)
          (each_passes (is_within form n) types front.1 k d within),
    )

passes_left : (form : ℕ) (syntax : TypeSyntax) (types : List TypeSyntax) (found : IsLeftOver form syntax types) →
    is_left form syntax types found.0 ≡ true
passes_left form syntax types found =
    let n = found.0 in
    and_from (has_form form n && is_within form n syntax) (list_all (is_within form n) types)
    (and_from (has_form form n) (is_within form n syntax) (fits_form form n found.2)
    (test_of_within form n syntax found.3))
    (all_pass (is_within form n) types (λ k d within. test_of_within form n (get_or types k d) (found.4 k d within)))

left_or_not : (form : ℕ) (syntax : TypeSyntax) (types : List TypeSyntax) →
    IsLeftOver form syntax types ⊎ (¬ IsLeftOver form syntax types)
left_or_not form syntax types = by (search_whole (is_left form syntax types))
  where
    by : PassesWhole (is_left form syntax types)
        ⊎ ((n : ℤ) → FitsSigned w64 n → is_left form syntax types n ≡ false) →
        IsLeftOver form syntax types ⊎ (¬ IsLeftOver form syntax types)
    by (inl found) = inl (left_over form syntax types found)
    by (inr gone) = inr (λ found. true≢false (sym (passes_left form syntax types found) ∙ gone found.0 found.1))

pub not_empty_unless : (syntax : TypeSyntax) (types : List TypeSyntax) → ¬ (¬ IsNotEmpty syntax types) →
    IsNotEmpty syntax types
not_empty_unless syntax types unless form bounds own =
    unless_not (left_or_not form syntax types) (λ gone. unless (λ some. gone (some form bounds own)))
