-- What an octet begins decides which tokens may stand there.
use Rattle.std.proofs.Common.{◌≡◌, ◌≢◌, ℕ, ◌+◌, ◌<◌, ◌⊎◌, ◌^◌, Bool, true, false, List, length, slice_index}
use Rattle.std.proofs.Common.{slice_range, refl, sym, ap, subst, arith, ◌∙◌, ⊎_elim, inl, inr}
use Rattle.std.proofs.lemmas.Bool.{both_ways, or_cases, eqb-true, cases_order, false≢true}
use Rattle.std.specs.Str.Parse.{digits_value}
use Rattle.text_lex.specs.Octets.{start_of, is_one_of, decimal_digits, hexadecimal_digits, binary_digits}
use Rattle.text_lex.specs.Octets.{hexadecimal_suffix, binary_suffix, apostrophe_octet}
use Rattle.text_lex.specs.Comments.{AreHyphens}
use Rattle.text_lex.specs.Lexemes.{WordRest, StringRest, IsRun, IsQuotedRun, IsSign, Spells}
use Rattle.text_lex.specs.Lexemes.Spells.{word, number, string, hexadecimal, binary, sign}
use Rattle.text_lex.specs.Pieces.{IsFault, fault_of}
use Rattle.text_lex.specs.Pieces.IsGap.{blank, comment}
use Rattle.text_lex.specs.declared.lexing_octets.Start.{Start}
use Rattle.text_lex.specs.declared.lexing_octets.Start.TheVariants.{Blank, Delimiter, Letter, Digit, Apostrophe, Sign}
use Rattle.text_lex.specs.declared.lexing_octets.Start.TheVariants.{Nothing}
use Rattle.token_grammar.specs.Kinds.{word_kind, number_kind, string_kind, hexadecimal_kind, binary_kind, sign_kind}

module _ (text : List ℕ) (announced : Bool) (kind i k : ℕ) where
  pub spelt_word : start_of announced (slice_index text i) ≡ Letter → Spells text announced kind i k →
      (kind ≡ word_kind) × WordRest text (i + 1) k
  spelt_word start (word is_kind _ rest) = (is_kind, rest)
  spelt_word start (number _ other _ _) = absurd (cc)
  spelt_word start (string _ other _) = absurd (cc)
  spelt_word start (hexadecimal _ other _) = absurd (cc)
  spelt_word start (binary _ other _) = absurd (cc)
  spelt_word start (sign _ other _) = absurd (cc)

  pub spelt_number : start_of announced (slice_index text i) ≡ Digit → Spells text announced kind i k →
      (kind ≡ number_kind) × IsRun decimal_digits text i k × (digits_value 10 (slice_range text i k) < 2 ^ 64)
  spelt_number start (word _ other _) = absurd (cc)
  spelt_number start (number is_kind _ run fits) = (is_kind, run, fits)
  spelt_number start (string _ other _) = absurd (cc)
  spelt_number start (hexadecimal _ other _) = absurd (cc)
  spelt_number start (binary _ other _) = absurd (cc)
  spelt_number start (sign _ other _) = absurd (cc)

  pub spelt_string : start_of announced (slice_index text i) ≡ Delimiter → Spells text announced kind i k →
      (kind ≡ string_kind) × StringRest text (slice_index text i) (i + 1) k
  spelt_string start (word _ other _) = absurd (cc)
  spelt_string start (number _ other _ _) = absurd (cc)
  spelt_string start (string is_kind _ rest) = (is_kind, rest)
  spelt_string start (hexadecimal _ other _) = absurd (cc)
  spelt_string start (binary _ other _) = absurd (cc)
  spelt_string start (sign _ other _) = absurd (cc)

  pub spelt_bits : start_of announced (slice_index text i) ≡ Apostrophe → Spells text announced kind i k →
      ((kind ≡ hexadecimal_kind) × IsQuotedRun hexadecimal_digits text hexadecimal_suffix i k) ⊎
      ((kind ≡ binary_kind) × IsQuotedRun binary_digits text binary_suffix i k)
  spelt_bits start (word _ other _) = absurd (cc)
  spelt_bits start (number _ other _ _) = absurd (cc)
  spelt_bits start (string _ other _) = absurd (cc)
  spelt_bits start (hexadecimal is_kind _ run) = inl (is_kind, run)
  spelt_bits start (binary is_kind _ run) = inr (is_kind, run)
  spelt_bits start (sign _ other _) = absurd (cc)

  pub spelt_sign : start_of announced (slice_index text i) ≡ Sign → Spells text announced kind i k →
      (kind ≡ sign_kind) × IsSign text i k
  spelt_sign start (word _ other _) = absurd (cc)
  spelt_sign start (number _ other _ _) = absurd (cc)
  spelt_sign start (string _ other _) = absurd (cc)
  spelt_sign start (hexadecimal _ other _) = absurd (cc)
  spelt_sign start (binary _ other _) = absurd (cc)
  spelt_sign start (sign is_kind _ rest) = (is_kind, rest)

  pub spelt_nothing : start_of announced (slice_index text i) ≡ Nothing → Spells text announced kind i k → ⊥
  spelt_nothing start (word _ other _) = cc
  spelt_nothing start (number _ other _ _) = cc
  spelt_nothing start (string _ other _) = cc
  spelt_nothing start (hexadecimal _ other _) = cc
  spelt_nothing start (binary _ other _) = cc
  spelt_nothing start (sign _ other _) = cc

  pub spelt_blank : start_of announced (slice_index text i) ≡ Blank → Spells text announced kind i k → ⊥
  spelt_blank start (word _ other _) = cc
  spelt_blank start (number _ other _ _) = cc
  spelt_blank start (string _ other _) = cc
  spelt_blank start (hexadecimal _ other _) = cc
  spelt_blank start (binary _ other _) = cc
  spelt_blank start (sign _ other _) = cc

-- the three ways to say that nothing goes on
pub fault_at : (text : List ℕ) (announced : Bool) (i : ℕ) (start : Start) → i < length text → ¬ AreHyphens text i
    → start_of announced (slice_index text i) ≡ start → start ≢ Blank
    → ((other k : ℕ) → ¬ Spells text announced other i k) → IsFault text announced i (fault_of start)
fault_at text announced i start within no_comment begins no_blank no_token = record {
  within = within;
  no_gap = λ k gap. elim gap [
    | blank is_blank _ ↦ no_blank (sym begins ∙ is_blank)
    | comment hyphens _ ↦
        no_comment hyphens
  ];
  no_token = no_token;
  kind_is = ap fault_of (sym begins);
}

pub run_once : (octets text : List ℕ) (i j k : ℕ) → IsRun octets text i j → IsRun octets text i k → j ≡ k
run_once octets text i j k first second =
    ⊎_elim (λ same. same) (λ differ. ⊎_elim
    (λ below. absurd (first.stops (omega (arith, second.within)) (second.each j first.forward below)))
    (λ above. absurd (second.stops (omega (arith, first.within)) (first.each k second.forward above)))
    differ) (cases_order j k)

bits_are_hex_digits : (octet : ℕ) → is_one_of binary_digits octet ≡ true → is_one_of hexadecimal_digits octet ≡ true
unfolding is_one_of
bits_are_hex_digits octet found =
    let hex : ℕ → Type 0 = λ c. is_one_of hexadecimal_digits c ≡ true in
    ⊎_elim (λ zero. subst hex (eqb-true 48 octet zero) refl)
    (λ later. ⊎_elim (λ one. subst hex (eqb-true 49 octet one) refl) (λ none_left. absurd (false≢true none_left))
    (or_cases _ _ later)) (or_cases _ _ found)

apostrophe_is_no_hex_digit : is_one_of hexadecimal_digits apostrophe_octet ≡ false
unfolding is_one_of
apostrophe_is_no_hex_digit = refl

-- bits up to an apostrophe are the hexadecimal digits up to there
pub bits_run : (text : List ℕ) (i j k : ℕ) → IsRun binary_digits text i j → slice_index text j ≡ apostrophe_octet
    → IsRun hexadecimal_digits text i k → j ≡ k
bits_run text i j k bits apostrophe hex =
    ⊎_elim (λ same. same) (λ differ. ⊎_elim
    (λ below. absurd (both_ways _ (ap (is_one_of hexadecimal_digits) apostrophe ∙ apostrophe_is_no_hex_digit)
    (hex.each j bits.forward below)))
    (λ above. absurd (hex.stops (omega (arith, bits.within)) (bits_are_hex_digits _ (bits.each k hex.forward above))))
    differ) (cases_order j k)

-- a run that one octet begins isn't empty
pub run_forward : (octets text : List ℕ) (i k : ℕ) → IsRun octets text i k → i < length text
    → is_one_of octets (slice_index text i) ≡ true → i < k
run_forward octets text i k run within begins =
    ⊎_elim (λ same. absurd (run.stops (omega arith)
    (subst (λ m. is_one_of octets (slice_index text m) ≡ true) same begins)))
    (λ differ. ⊎_elim (λ below. below) (λ above. absurd (let f = run.forward in omega arith)) differ)
    (cases_order i k)
