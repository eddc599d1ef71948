-- The forms of tokens at a place of a text: X.722, section 8.2; X.680, section 12.
use Rattle.std.specs.Prelude.{◌≡◌, ℕ, ◌+◌, ◌<◌, ◌≤◌, ◌^◌, ◌≢◌, List, Bool, length, slice_index, slice_range, IsTrue}
use Rattle.std.specs.Str.Parse.{digits_value}
use Rattle.text_lex.specs.Octets.{is_one_of, is_word_octet, start_of, hyphen_octet, colon_octet, equals_octet}
use Rattle.text_lex.specs.Octets.{full_stop_octet, apostrophe_octet, hexadecimal_suffix, binary_suffix, decimal_digits}
use Rattle.text_lex.specs.Octets.{hexadecimal_digits, binary_digits}
use Rattle.text_lex.specs.declared.lexing_octets.Start.TheVariants.{Delimiter, Letter, Digit, Apostrophe, Sign}
use Rattle.token_grammar.specs.Kinds.{word_kind, number_kind, string_kind, hexadecimal_kind, binary_kind, sign_kind}

-- from i to k stands the rest of a word: letters, digits and solidi, and single hyphens before these
pub data WordRest (text : List ℕ) : ℕ → ℕ → Type 0 where
  ends : {i k : ℕ} → k ≡ i → WordRest text i k
  octet : {i k : ℕ} → IsTrue (is_word_octet (slice_index text i)) → WordRest text (i + 1) k → WordRest text i k
  hyphen : {i k : ℕ} → slice_index text i ≡ hyphen_octet → IsTrue (is_word_octet (slice_index text (i + 1)))
      → WordRest text (i + 2) k → WordRest text i k

-- from i to k stands the rest of a string: octets other than the delimiter, doubled delimiters, which
-- stand for one, and the delimiter that ends it
pub data StringRest (text : List ℕ) (delimiter : ℕ) : ℕ → ℕ → Type 0 where
  octet : {i k : ℕ} → i < length text → slice_index text i ≢ delimiter → StringRest text delimiter (i + 1) k
      → StringRest text delimiter i k
  doubled : {i k : ℕ} → i < length text → slice_index text i ≡ delimiter → slice_index text (i + 1) ≡ delimiter
      → StringRest text delimiter (i + 2) k → StringRest text delimiter i k
  ends : {i k : ℕ} → i < length text → slice_index text i ≡ delimiter → slice_index text (i + 1) ≢ delimiter → k ≡ i + 1
      → StringRest text delimiter i k

-- from i to k stand all octets in a row that are each one of `octets`
pub record IsRun (octets text : List ℕ) (i k : ℕ) : Type 0 where
  pub forward : i ≤ k
  pub within : k ≤ length text
  pub each : (m : ℕ) → i ≤ m → m < k → IsTrue (is_one_of octets (slice_index text m))
  pub stops : k < length text → ¬ (IsTrue (is_one_of octets (slice_index text k)))

-- between apostrophes stands a run of digits, and the suffix behind them ends at k
pub record IsQuotedRun (octets text : List ℕ) (suffix i k : ℕ) : Type 0 where
  pub stop : ℕ
  pub run : IsRun octets text (i + 1) stop
  pub apostrophe : slice_index text stop ≡ apostrophe_octet
  pub suffixed : slice_index text (stop + 1) ≡ suffix
  pub end : k ≡ stop + 2

-- a sign: `::=`, `..` or one octet
pub data IsSign (text : List ℕ) (i k : ℕ) : Type 0 where
  assignment : slice_index text i ≡ colon_octet → slice_index text (i + 1) ≡ colon_octet
      → slice_index text (i + 2) ≡ equals_octet → k ≡ i + 3 → IsSign text i k
  range : slice_index text i ≡ full_stop_octet → slice_index text (i + 1) ≡ full_stop_octet → k ≡ i + 2
      → IsSign text i k
  single : k ≡ i + 1 → IsSign text i k

-- a token of a kind from i to k; `announced`: words before it announce a string
pub data Spells (text : List ℕ) (announced : Bool) (kind i k : ℕ) : Type 0 where
  word : kind ≡ word_kind → start_of announced (slice_index text i) ≡ Letter → WordRest text (i + 1) k → Spells text
      announced kind i k
  number : kind ≡ number_kind → start_of announced (slice_index text i) ≡ Digit → IsRun decimal_digits text i k →
      digits_value 10 (slice_range text i k) < 2 ^ 64 → Spells text announced kind i k
  string : kind ≡ string_kind → start_of announced (slice_index text i) ≡ Delimiter → StringRest text
      (slice_index text i) (i + 1) k → Spells text announced kind i k
  hexadecimal : kind ≡ hexadecimal_kind → start_of announced (slice_index text i) ≡ Apostrophe → IsQuotedRun
      hexadecimal_digits text hexadecimal_suffix i k → Spells text announced kind i k
  binary : kind ≡ binary_kind → start_of announced (slice_index text i) ≡ Apostrophe → IsQuotedRun binary_digits text
      binary_suffix i k → Spells text announced kind i k
  sign : kind ≡ sign_kind → start_of announced (slice_index text i) ≡ Sign → IsSign text i k → Spells text announced
      kind i k
