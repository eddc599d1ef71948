-- Examples of the definitions, computed: X.722, section 8.2; X.680, section 12.
use Rattle.std.proofs.Common.{◌≡◌, ℕ, ◌≤◌, Bool, true, false, List, [], ◌∷◌, lit<, lit≤, refl, arith}
use Rattle.std.specs.Prelude.{codes}
use Rattle.std.proofs.lemmas.Bool.{false≢true}
use Rattle.text_lex.specs.Octets.{is_one_of, is_word_octet, start_of, quotation_octet}
use Rattle.text_lex.specs.Comments.{CommentRest}
use Rattle.text_lex.specs.Comments.CommentRest.{hyphens, octet as comment_octet}
use Rattle.text_lex.specs.Lexemes.{WordRest, StringRest, IsSign}
use Rattle.text_lex.specs.Lexemes.WordRest.{ends as word_ends, octet as word_octet, hyphen as word_hyphen}
use Rattle.text_lex.specs.Lexemes.StringRest.{octet as string_octet, doubled, ends as string_ends}
use Rattle.text_lex.specs.Lexemes.IsSign.{assignment}
use Rattle.text_lex.specs.Lexemes.Spells.{word}
use Rattle.text_lex.specs.Pieces.{IsGap}
use Rattle.text_lex.specs.Pieces.IsGap.{blank, comment}
use Rattle.text_lex.specs.Lexed.{is_word, announces, IsToken, AreTokensOf, Breaks}
use Rattle.text_lex.specs.Lexed.Lexed.{ended, gap, token}
use Rattle.text_lex.specs.Lexed.Breaks.{here}
use Rattle.token_grammar.specs.declared.token.Token.{Token}
use Rattle.token_grammar.specs.Kinds.{word_kind}
use Rattle.text_lex.specs.declared.lexing_octets.Start.TheVariants.{Delimiter, Nothing}
use Rattle.text_lex.specs.declared.lex_refusal.LexKind.TheVariants.{BadByte}
use Rattle.text_lex.proofs.Pieces.{spelt_word, spelt_nothing}

-- an exclamation mark opens a string behind the words that announce one, and is nothing elsewhere
announced_delimiter : start_of true 33 ≡ Delimiter
unfolding start_of is_one_of
announced_delimiter = refl

other_delimiter : start_of false 33 ≡ Nothing
unfolding start_of is_one_of
other_delimiter = refl

-- the comment of `--b--c` ends before the c
comment_example : CommentRest (codes "--b--c") 2 5
comment_example = comment_octet (lit< tt) (λ h. absurd (let first = h.0 in omega arith)) (λ h. omega arith)
    (hyphens (refl, refl) refl)

-- `a-b` is a word, and its hyphen is single
word_example : WordRest (codes "a-b;") 1 3
unfolding is_word_octet
word_example = word_hyphen refl refl (word_ends refl)

-- `"a""b"` is one string of six octets
string_example : StringRest (codes "\"a\"\"b\"") quotation_octet 1 6
string_example = string_octet (lit< tt) (λ h. omega arith)
    (doubled (lit< tt) refl refl
    (string_octet (lit< tt) (λ h. omega arith) (string_ends (lit< tt) refl (λ h. omega arith) refl)))

-- `::=` is a sign
sign_example : IsSign (codes "a::=b") 1 4
sign_example = assignment refl refl refl refl

-- the words of `a--b--c` are a and c
abbrev text : List ℕ
text = codes "a--b--c"

abbrev first_word : Token
first_word = record { kind = word_kind; at = 0; text = codes "a" }

abbrev last_word : Token
last_word = record { kind = word_kind; at = 6; text = codes "c" }

first_ends : (m : ℕ) → WordRest text 1 m → m ≤ 1
unfolding is_word_octet
first_ends m (word_ends e) = omega arith
first_ends m (word_octet is_octet _) = absurd (false≢true is_octet)
first_ends m (word_hyphen _ is_octet _) = absurd (false≢true is_octet)

last_ends : (m : ℕ) → WordRest text 7 m → m ≤ 7
unfolding is_word_octet
last_ends m (word_ends e) = omega arith
last_ends m (word_octet is_octet _) = absurd (false≢true is_octet)
last_ends m (word_hyphen is_hyphen _ _) = absurd (omega arith)

first_token : IsToken text false 0 1 first_word
unfolding start_of is_one_of
first_token = record {
  lexeme = record {
    no_comment = λ h. let octet = h.0 in omega arith;
    spelt = word refl refl (word_ends refl);
    longest = λ other m spelt. first_ends m (spelt_word text false other 0 m refl spelt).1;
    within = lit≤ tt;
  };
  placed = refl;
  slice = refl;
}

last_token : IsToken text false 6 7 last_word
unfolding start_of is_one_of
last_token = record {
  lexeme = record {
    no_comment = λ h. let octet = h.0 in omega arith;
    spelt = word refl refl (word_ends refl);
    longest = λ other m spelt. last_ends m (spelt_word text false other 6 m refl spelt).1;
    within = lit≤ tt;
  };
  placed = refl;
  slice = refl;
}

between : (announced : Bool) → IsGap text announced 1 6
between announced = comment (refl, refl)
    (comment_octet (lit< tt) (λ h. absurd (let first = h.0 in omega arith)) (λ h. omega arith)
    (hyphens (refl, refl) refl))

tokens_example : AreTokensOf text (first_word ∷ (last_word ∷ []))
unfolding announces is_word
tokens_example = token first_token (gap (between _) (token last_token (ended refl)))

-- an octet 0 begins nothing
no_gap_example : (k : ℕ) → IsGap (0 ∷ []) false 0 k → ⊥
unfolding start_of is_one_of
no_gap_example k (blank is_blank _) = cc
no_gap_example k (comment are _) = let octet = are.0 in omega arith

fault_example : Breaks (0 ∷ []) [] 0 0 BadByte
unfolding announces start_of is_one_of
fault_example = here refl (record {
  within = lit< tt;
  no_gap = λ k g. no_gap_example k g;
  no_token = λ other k spelt. spelt_nothing (0 ∷ []) false other 0 k refl spelt;
  kind_is = refl;
})
