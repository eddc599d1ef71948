-- Tokens are slices of their text with rising spans.
use Rattle.std.proofs.Common.{◌≡◌, ◌≢◌, ℕ, ◌+◌, ◌-◌, ◌<◌, ◌≤◌, Bool, List, ◌∷◌, length, slice_index, slice_range, sym}
use Rattle.std.proofs.Common.{ap, arith, ◌∙◌, ⊎_elim, length-take, length-drop}
use Rattle.std.specs.Prelude.{All, AllPairs}
use Rattle.std.proofs.lemmas.Bool.{cases_lt}
use Rattle.std.proofs.lemmas.List.Elements.{All-nil, All-cons, All-weaker}
use Rattle.std.proofs.lemmas.List.Kept.{AllPairs-cons}
use Rattle.text_lex.specs.Octets.{start_of}
use Rattle.text_lex.specs.Comments.{CommentRest}
use Rattle.text_lex.specs.Comments.CommentRest.{hyphens, line_end, text_end, octet}
use Rattle.text_lex.specs.Lexemes.{WordRest, StringRest, IsSign, Spells}
use Rattle.text_lex.specs.Lexemes.WordRest.{ends as word_ends, octet as word_octet, hyphen as word_hyphen}
use Rattle.text_lex.specs.Lexemes.StringRest.{octet as string_octet, doubled, ends as string_ends}
use Rattle.text_lex.specs.Lexemes.IsSign.{assignment, range, single}
use Rattle.text_lex.specs.Lexemes.Spells.{word, number, string, hexadecimal, binary, sign}
use Rattle.text_lex.specs.Pieces.{IsGap}
use Rattle.text_lex.specs.Pieces.IsGap.{blank, comment}
use Rattle.text_lex.specs.Lexed.{announces, IsToken, Lexed}
use Rattle.text_lex.specs.Lexed.Lexed.{ended, gap, token}
use Rattle.text_lex.specs.Slices.{IsSlice, EndsBefore}
use Rattle.token_grammar.specs.declared.token.Token.{Token}
use Rattle.text_lex.specs.declared.lexing_octets.Start.TheVariants.{Digit, Nothing}
use Rattle.text_lex.proofs.Digits.{digit_begins}
use Rattle.text_lex.proofs.Pieces.{run_forward}
use Rattle.text_lex.proofs.Once.{past_is_nothing}

comment_forward : (text : List ℕ) (i k : ℕ) → CommentRest text i k → i ≤ k
comment_forward text i k (hyphens _ e) = omega arith
comment_forward text i k (line_end _ e) = omega arith
comment_forward text i k (text_end _ e) = omega arith
comment_forward text i k (octet _ _ _ rest) = let more = comment_forward text (i + 1) k rest in omega arith

word_forward : (text : List ℕ) (i k : ℕ) → WordRest text i k → i ≤ k
word_forward text i k (word_ends e) = omega arith
word_forward text i k (word_octet _ rest) = let more = word_forward text (i + 1) k rest in omega arith
word_forward text i k (word_hyphen _ _ rest) = let more = word_forward text (i + 2) k rest in omega arith

string_forward : (text : List ℕ) (delimiter i k : ℕ) → StringRest text delimiter i k → i ≤ k
string_forward text delimiter i k (string_octet _ _ rest) = let more =
    string_forward text delimiter (i + 1) k rest in omega arith
string_forward text delimiter i k (doubled _ _ _ rest) = let more =
    string_forward text delimiter (i + 2) k rest in omega arith
string_forward text delimiter i k (string_ends _ _ _ e) = omega arith

gap_forward : (text : List ℕ) (announced : Bool) (i k : ℕ) → IsGap text announced i k → i ≤ k
gap_forward text announced i k (blank _ e) = omega arith
gap_forward text announced i k (comment _ rest) = let more = comment_forward text (i + 2) k rest in omega arith

sign_forward : (text : List ℕ) (i k : ℕ) → IsSign text i k → i < k
sign_forward text i k (assignment _ _ _ e) = omega arith
sign_forward text i k (range _ _ e) = omega arith
sign_forward text i k (single e) = omega arith

digit_is_something : Digit ≢ Nothing
digit_is_something = λ e. cc

digit_inside : (text : List ℕ) (announced : Bool) (i : ℕ) → start_of announced (slice_index text i) ≡ Digit
    → i < length text
digit_inside text announced i begins =
    ⊎_elim (λ below. below) (λ past. absurd (let nothing = past_is_nothing text announced i past in
    digit_is_something (sym begins ∙ nothing))) (cases_lt i (length text))

spelt_forward : (text : List ℕ) (announced : Bool) (kind i k : ℕ) → Spells text announced kind i k → i < k
spelt_forward text announced kind i k (word _ _ rest) = let more = word_forward text (i + 1) k rest in omega arith
spelt_forward text announced kind i k (number _ begins run _) =
    run_forward _ text i k run (digit_inside text announced i begins) (digit_begins announced _ begins)
spelt_forward text announced kind i k (string _ _ rest) = let more = string_forward text _ (i + 1) k rest in omega arith
spelt_forward text announced kind i k (hexadecimal _ _ quoted) = let run = quoted.run.forward in let end =
    quoted.end in omega arith
spelt_forward text announced kind i k (binary _ _ quoted) = let run = quoted.run.forward in let end =
    quoted.end in omega arith
spelt_forward text announced kind i k (sign _ _ rest) = sign_forward text i k rest

token_length : (text : List ℕ) (announced : Bool) (i k : ℕ) (next : Token) → IsToken text announced i k next → (i < k)
    × (i + length next.text ≡ k)
token_length text announced i k next one =
    let forward = spelt_forward text announced next.kind i k one.lexeme.spelt in
    let within = one.lexeme.within in
    let len : length (slice_range text i k) ≡ k - i = simp (length-take, length-drop) (omega arith) in
    let same = ap length one.slice in
    (forward, omega arith)

token_slice : (text : List ℕ) (announced : Bool) (i k : ℕ) (next : Token) → IsToken text announced i k next
    → IsSlice text next
token_slice text announced i k next one =
    let span = token_length text announced i k next one in
    let within = one.lexeme.within in
    let placed = one.placed in
    let ends : next.at + length next.text ≡ k = omega arith in
    record {
      nonempty = omega arith;
      within = omega arith;
      slice = one.slice ∙ (λ x. slice_range text (sym placed x) (sym ends x));
    }

pub record AreSlices (text : List ℕ) (i : ℕ) (tokens : List Token) : Type 0 where
  pub slices : All (IsSlice text) tokens
  pub behind : All (λ next. i ≤ next.at) tokens
  pub rising : AllPairs EndsBefore tokens

pub tokens_slices : (text : List ℕ) (before : List Token) (i : ℕ) (tokens : List Token) → Lexed text before i tokens
    → AreSlices text i tokens
tokens_slices text before i _ (ended _) =
    record { slices = All-nil _; behind = All-nil _; rising = λ m n d lt below. absurd (omega arith) }
tokens_slices text before i tokens (gap {k = k} g rest) =
    let others = tokens_slices text before k tokens rest in
    let forward = gap_forward text (announces before) i k g in
    record {
      slices = others.slices;
      behind = All-weaker (λ (next : Token). k ≤ next.at) (λ next. i ≤ next.at) (λ next le. omega arith) tokens
          others.behind;
      rising = others.rising;
    }
tokens_slices text before i _ (token {k = k} {first = first} {tokens = tokens} one rest) =
    let others = tokens_slices text (first ∷ before) k tokens rest in
    let span = token_length text (announces before) i k first one in
    let placed = one.placed in
    record {
      slices = All-cons (IsSlice text) first tokens (token_slice text (announces before) i k first one) others.slices;
      behind = All-cons (λ (next : Token). i ≤ next.at) first tokens (omega arith)
          (All-weaker (λ (next : Token). k ≤ next.at) (λ next. i ≤ next.at) (λ next le. omega arith) tokens
          others.behind);
      rising = AllPairs-cons EndsBefore first tokens
          (All-weaker (λ (next : Token). k ≤ next.at) (EndsBefore first) (λ next le. omega arith) tokens others.behind)
          others.rising;
    }
