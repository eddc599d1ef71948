-- NumberTokens: the number tokens of a document are numbers of 64 bits.
use Rattle.std.proofs.Common.{◌≡◌, ℕ, ◌<◌, ◌^◌, Bool, false, List, [], ◌∷◌, refl, sym, subst, arith}
use Rattle.std.proofs.Common.{slice_index, slice_range}
use Rattle.std.specs.Prelude.{All}
use Rattle.std.specs.Str.Parse.{IsNumeral, digits_value}
use Rattle.std.proofs.lemmas.List.Elements.{All-cons, All-nil}
use Rattle.token_grammar.specs.Kinds.{number_kind}
use Rattle.token_grammar.specs.declared.token.Token.{Token}
use Rattle.text_lex.specs.Lexed.{AreTokensOf, IsToken, Lexed}
use Rattle.text_lex.specs.Lexed.Lexed.{ended, gap, token}
use Rattle.text_lex.specs.Lexemes.{Spells}
use Rattle.text_lex.specs.Lexemes.Spells.{word, number, string, hexadecimal, binary, sign}
use Rattle.text_lex.specs.Octets.{decimal_digits, is_one_of}
use Rattle.text_lex.proofs.Digits.{digit_begins, run_numeral}
use Rattle.text_lex.proofs.Ends.{octet_inside}
use Rattle.text_lex.proofs.Pieces.{run_forward}
use Rattle.gdmo_first_names.specs.ReadModules.{IsWhole}

-- a number token is a number of 64 bits
IsWholeNumber : Token → Type 0
IsWholeNumber x = x.kind ≡ number_kind → IsWhole x

no_digit : is_one_of decimal_digits 0 ≡ false
unfolding is_one_of
no_digit = refl

spelt_whole : (text : List ℕ) (announced : Bool) (kind i k : ℕ) → kind ≡ number_kind → Spells text announced kind i k →
    IsNumeral 10 (slice_range text i k) × (digits_value 10 (slice_range text i k) < 2 ^ 64)
spelt_whole text announced kind i k is (word other _ _) = absurd (omega arith)
spelt_whole text announced kind i k is (number _ begins run small) =
    let digit = digit_begins announced (slice_index text i) begins in
    let within = octet_inside (is_one_of decimal_digits) text i no_digit digit in
    (run_numeral text i k run (run_forward decimal_digits text i k run within digit), small)
spelt_whole text announced kind i k is (string other _ _) = absurd (omega arith)
spelt_whole text announced kind i k is (hexadecimal other _ _) = absurd (omega arith)
spelt_whole text announced kind i k is (binary other _ _) = absurd (omega arith)
spelt_whole text announced kind i k is (sign other _ _) = absurd (omega arith)

token_whole : (text : List ℕ) (announced : Bool) (i k : ℕ) (x : Token) → IsToken text announced i k x → IsWholeNumber x
unfolding IsWholeNumber
token_whole text announced i k x one is = subst
    (λ ds. IsNumeral 10 ds × (digits_value 10 ds < 2 ^ 64)) (sym one.slice)
    (spelt_whole text announced x.kind i k is one.lexeme.spelt)

all_whole : (text : List ℕ) (before : List Token) (i : ℕ) (tokens : List Token) → Lexed text before i tokens →
    All IsWholeNumber tokens
all_whole text before i _ (ended _) = All-nil IsWholeNumber
all_whole text before i tokens (gap {k = k} _ rest) = all_whole text before k tokens rest
all_whole text before i _ (token {k = k} {first = first} {tokens = tokens} one rest) =
    All-cons IsWholeNumber first tokens (token_whole text _ i k first one)
    (all_whole text (first ∷ before) k tokens rest)

pub numbers_whole : {text : List ℕ} {tokens : List Token} → AreTokensOf text tokens →
    All (λ x. x.kind ≡ number_kind → IsWhole x) tokens
unfolding IsWholeNumber
numbers_whole {text} {tokens} lexed = all_whole text [] 0 tokens lexed
