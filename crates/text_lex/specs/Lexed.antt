-- The tokens of a document and its first fault: X.722, section 8.2; X.680, section 12.
use Rattle.std.specs.Prelude.{◌≡◌, ℕ, Bool, false, ◌==◌, ◌&&◌, ◌||◌, List, [], ◌∷◌, length, slice_range, codes}
use Rattle.std.specs.Prelude.{bytes_eq}
use Rattle.token_grammar.specs.declared.token.Token.{Token}
use Rattle.token_grammar.specs.Kinds.{word_kind}
use Rattle.text_lex.specs.declared.lex_refusal.LexKind.{LexKind}
use Rattle.text_lex.specs.declared.lex_refusal.LexRefusal.{LexRefusal}
use Rattle.text_lex.specs.declared.lex_refusal.LexRefusal.TheVariants.{Fault, Memory}
use Rattle.text_lex.specs.Pieces.{IsGap, IsLexeme, IsFault}

unfoldable pub is_word : Token → List ℕ → Bool
is_word token word = (token.kind == word_kind) && bytes_eq token.text word

-- the tokens before a place, the nearest first, announce a string
unfoldable pub announces : List Token → Bool
announces [] = false
announces (last ∷ []) = is_word last (codes "DESCRIPTION")
announces (last ∷ (previous ∷ _)) =
    is_word last (codes "DESCRIPTION")
    || ((is_word previous (codes "DEFINED") && is_word last (codes "AS"))
    || (is_word previous (codes "PRESENT") && is_word last (codes "IF")))

-- a token is the longest slice of the text that the grammar has from i on, and it ends at k
pub record IsToken (text : List ℕ) (announced : Bool) (i k : ℕ) (token : Token) : Type 0 where
  pub lexeme : IsLexeme text announced token.kind i k
  pub placed : token.at ≡ i
  pub slice : token.text ≡ slice_range text i k

-- from i to the end of the text stand these tokens, with white space and comments alone before,
-- between and behind them; `before`: the tokens before i, the nearest first
pub data Lexed (text : List ℕ) : List Token → ℕ → List Token → Type 0 where
  ended : {before : List Token} {i : ℕ} → i ≡ length text → Lexed text before i []
  gap : {before : List Token} {i k : ℕ} {tokens : List Token} → IsGap text (announces before) i k
      → Lexed text before k tokens → Lexed text before i tokens
  token : {before : List Token} {i k : ℕ} {first : Token} {tokens : List Token}
      → IsToken text (announces before) i k first → Lexed text (first ∷ before) k tokens
      → Lexed text before i (first ∷ tokens)

-- behind tokens, white space and comments from i on the text goes on with none of them at `place`
pub data Breaks (text : List ℕ) : List Token → ℕ → ℕ → LexKind → Type 0 where
  here : {before : List Token} {i place : ℕ} {kind : LexKind} → place ≡ i → IsFault text (announces before) i kind
      → Breaks text before i place kind
  gap : {before : List Token} {i k place : ℕ} {kind : LexKind} → IsGap text (announces before) i k
      → Breaks text before k place kind → Breaks text before i place kind
  token : {before : List Token} {i k place : ℕ} {kind : LexKind} {first : Token}
      → IsToken text (announces before) i k first → Breaks text (first ∷ before) k place kind
      → Breaks text before i place kind

abbrev pub AreTokensOf : List ℕ → List Token → Type 0
AreTokensOf text tokens = Lexed text [] 0 tokens

-- no tokens make up the text, and this is its first fault
abbrev pub IsRefused : List ℕ → LexRefusal → Type 0
IsRefused text (Fault place kind) = Breaks text [] 0 place kind × ((tokens : List Token) → ¬ AreTokensOf text tokens)
IsRefused text Memory = Unit {0}
