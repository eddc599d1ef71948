-- Digits of a text are digits of a number.
use Rattle.std.proofs.Common.{◌≡◌, ◌≢◌, ℕ, ◌+◌, ◌-◌, ◌<◌, Bool, true, false, cond, List, [], ◌∷◌, length, get_or}
use Rattle.std.proofs.Common.{slice_index, slice_range, refl, sym, subst, arith, ⊎_elim, rules, get_or-drop}
use Rattle.std.proofs.Common.{get_or-take, length-take, length-drop}
use Rattle.std.proofs.lemmas.Bool.{or_cases, eqb-true, false≢true}
use Rattle.std.proofs.lemmas.Str.Parse.{numerals_by_value, tells_by_index}
use Rattle.std.specs.Prelude.{◌==◌, ◌&&◌}
use Rattle.std.specs.Char.{is_ascii_alphabetic}
use Rattle.std.specs.List.{list_any}
use Rattle.std.specs.Int.{IsInRange}
use Rattle.std.specs.Str.Parse.{AllDigits, IsNumeral}
use Rattle.text_lex.specs.Octets.{is_one_of, start_of, decimal_digits, blank_octets, delimiter_octets, sign_octets}
use Rattle.text_lex.specs.Octets.{quotation_octet, apostrophe_octet}
use Rattle.text_lex.specs.declared.lexing_octets.Start.{Start}
use Rattle.text_lex.specs.declared.lexing_octets.Start.TheVariants.{Blank, Delimiter, Letter, Digit, Apostrophe, Sign}
use Rattle.text_lex.specs.declared.lexing_octets.Start.TheVariants.{Nothing}
use Rattle.text_lex.specs.Lexemes.{IsRun}

abbrev EachInRange : ℕ → ℕ → List ℕ → Type 0
EachInRange low high [] = Unit {0}
EachInRange low high (x ∷ xs) = IsInRange low high x × EachInRange low high xs

any_in_range : (low high octet : ℕ) (xs : List ℕ) → EachInRange low high xs → list_any (λ one. one == octet) xs ≡ true
    → IsInRange low high octet
any_in_range low high octet [] each found = absurd (false≢true found)
any_in_range low high octet (x ∷ xs) each found =
    ⊎_elim (λ here. subst (IsInRange low high) (eqb-true x octet here) each.0)
    (λ later. any_in_range low high octet xs each.1 later) (or_cases _ _ found)

pub digit_in_range : (octet : ℕ) → is_one_of decimal_digits octet ≡ true → IsInRange 48 57 octet
unfolding is_one_of
digit_in_range octet found = any_in_range 48 57 octet decimal_digits (search rules) found

-- a run of digits is read as a number
pub run_all_digits : (text : List ℕ) (i k : ℕ) → IsRun decimal_digits text i k → AllDigits 10 (slice_range text i k)
run_all_digits text i k run =
    (numerals_by_value _ tells_by_index).to (slice_range text i k) (λ m lt.
    let len : length (slice_range text i k) ≡ k - i = simp (length-take, length-drop) (omega arith) in
    let below : m < k - i = omega arith in
    let read : get_or (slice_range text i k) m 0 ≡ slice_index text (i + m) = rw (get_or-take, get_or-drop) in
    subst (IsInRange 48 57) (sym read) (digit_in_range _ (run.each (i + m) (omega arith) (omega arith))))

pub run_numeral : (text : List ℕ) (i k : ℕ) → IsRun decimal_digits text i k → i < k
    → IsNumeral 10 (slice_range text i k)
run_numeral text i k run forward =
    let within = run.within in
    let len : length (slice_range text i k) ≡ k - i = simp (length-take, length-drop) (omega arith) in
    (omega arith, run_all_digits text i k run)

past_cond : (b : Bool) (x y : Start) → x ≢ Digit → cond b x y ≡ Digit → y ≡ Digit
past_cond true x y other e = absurd (other e)
past_cond false x y other e = e

held_cond : (b : Bool) (y : Start) → y ≢ Digit → cond b Digit y ≡ Digit → b ≡ true
held_cond true y other e = refl
held_cond false y other e = absurd (other e)

no_digit : (b d : Bool) → cond b Apostrophe (cond d Sign Nothing) ≢ Digit
no_digit true d = λ e. cc
no_digit false true = λ e. cc
no_digit false false = λ e. cc

blank_is_no_digit : Blank ≢ Digit
blank_is_no_digit = λ e. cc

delimiter_is_no_digit : Delimiter ≢ Digit
delimiter_is_no_digit = λ e. cc

letter_is_no_digit : Letter ≢ Digit
letter_is_no_digit = λ e. cc

-- what begins as a digit is one
pub digit_begins : (announced : Bool) (octet : ℕ) → start_of announced octet ≡ Digit
    → is_one_of decimal_digits octet ≡ true
unfolding start_of
digit_begins announced octet begins =
    held_cond _ _ (no_digit (octet == apostrophe_octet) (is_one_of sign_octets octet))
    (past_cond (is_ascii_alphabetic octet) _ _ letter_is_no_digit
    (past_cond (announced && is_one_of delimiter_octets octet) _ _ delimiter_is_no_digit
    (past_cond (octet == quotation_octet) _ _ delimiter_is_no_digit
    (past_cond (is_one_of blank_octets octet) _ _ blank_is_no_digit begins))))
