-- Steps through comments, words, strings and runs.
use Rattle.std.proofs.Common.{◌≡◌, ◌≢◌, ℕ, ◌+◌, ◌<◌, ◌≤◌, Bool, true, false, List, length, slice_index, refl, sym, ap}
use Rattle.std.proofs.Common.{arith, ◌∙◌, ⊎_elim}
use Rattle.std.proofs.lemmas.Bool.{both_ways, cases_lt}
use Rattle.std.proofs.lemmas.List.{get_or_past}
use Rattle.text_lex.specs.Octets.{is_word_octet, hyphen_octet}
use Rattle.text_lex.specs.Lexemes.{WordRest, StringRest}
use Rattle.text_lex.specs.Lexemes.WordRest.{ends, octet, hyphen}
use Rattle.text_lex.specs.Lexemes.StringRest.{octet as plain, doubled, ends as closes}

-- the octets behind the end are 0, so what 0 is not stands within
pub octet_inside : (test : ℕ → Bool) (text : List ℕ) (i : ℕ) → test 0 ≡ false → test (slice_index text i) ≡ true
    → i < length text
octet_inside test text i at_zero at_octet =
    ⊎_elim (λ below. below) (λ past. absurd (both_ways _ (ap test (get_or_past text i 0 past) ∙ at_zero) at_octet))
    (cases_lt i (length text))

pub hyphen_is_no_word_octet : is_word_octet hyphen_octet ≡ false
unfolding is_word_octet
hyphen_is_no_word_octet = refl

pub nothing_is_no_word_octet : is_word_octet 0 ≡ false
unfolding is_word_octet
nothing_is_no_word_octet = refl

pub word_step : (text : List ℕ) (i k : ℕ) → is_word_octet (slice_index text i) ≡ true → i + 1 ≤ k → WordRest text i k
    → WordRest text (i + 1) k
word_step text i k is_octet le (ends e) = absurd (omega arith)
word_step text i k is_octet le (octet _ rest) = rest
word_step text i k is_octet le (hyphen is_hyphen _ rest) =
    absurd (both_ways _ (ap is_word_octet is_hyphen ∙ hyphen_is_no_word_octet) is_octet)

pub hyphen_step : (text : List ℕ) (i k : ℕ) → is_word_octet (slice_index text i) ≡ false → i + 2 ≤ k → WordRest text i k
    → WordRest text (i + 2) k
hyphen_step text i k no_octet le (ends e) = absurd (omega arith)
hyphen_step text i k no_octet le (octet is_octet rest) = absurd (both_ways _ no_octet is_octet)
hyphen_step text i k no_octet le (hyphen is_hyphen _ rest) = rest

-- behind the end of the text no word goes on
pub word_past : (text : List ℕ) (i k : ℕ) → length text ≤ i → WordRest text i k → k ≡ i
word_past text i k past (ends e) = e
word_past text i k past (octet is_octet rest) =
    absurd (let lt = octet_inside is_word_octet text i nothing_is_no_word_octet is_octet in omega arith)
word_past text i k past (hyphen is_hyphen _ rest) =
    absurd (let zero : slice_index text i ≡ 0 = get_or_past text i 0 past in omega arith)

pub string_step : (text : List ℕ) (delimiter i k : ℕ) → slice_index text i ≢ delimiter → StringRest text delimiter i k
    → StringRest text delimiter (i + 1) k
string_step text delimiter i k other (plain _ _ rest) = rest
string_step text delimiter i k other (doubled _ same _ rest) = absurd (other same)
string_step text delimiter i k other (closes _ same _ _) = absurd (other same)

pub doubled_step : (text : List ℕ) (delimiter i k : ℕ) → slice_index text i ≡ delimiter
    → slice_index text (i + 1) ≡ delimiter → StringRest text delimiter i k → StringRest text delimiter (i + 2) k
doubled_step text delimiter i k same again (plain _ other rest) = absurd (other same)
doubled_step text delimiter i k same again (doubled _ _ _ rest) = rest
doubled_step text delimiter i k same again (closes _ _ other _) = absurd (other again)

pub string_past : (text : List ℕ) (delimiter i k : ℕ) → length text ≤ i → StringRest text delimiter i k → ⊥
string_past text delimiter i k past (plain lt _ rest) = omega arith
string_past text delimiter i k past (doubled lt _ _ rest) = omega arith
string_past text delimiter i k past (closes lt _ _ _) = omega arith

-- a string has one end
string_closed : (text : List ℕ) (delimiter i k : ℕ) → slice_index text i ≡ delimiter
    → slice_index text (i + 1) ≢ delimiter → StringRest text delimiter i k → k ≡ i + 1
string_closed text delimiter i k same last (plain _ other _) = absurd (other same)
string_closed text delimiter i k same last (doubled _ _ again _) = absurd (last again)
string_closed text delimiter i k same last (closes _ _ _ end) = end

pub string_once : (text : List ℕ) (delimiter i k m : ℕ) → StringRest text delimiter i k
    → StringRest text delimiter i m → m ≡ k
string_once text delimiter i k m (plain _ other rest) second =
    string_once text delimiter (i + 1) k m rest (string_step text delimiter i m other second)
string_once text delimiter i k m (doubled _ same again rest) second =
    string_once text delimiter (i + 2) k m rest (doubled_step text delimiter i m same again second)
string_once text delimiter i k m (closes _ same last end) second =
    string_closed text delimiter i m same last second ∙ sym end
