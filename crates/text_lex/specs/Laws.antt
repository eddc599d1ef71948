-- What holds of each text, its tokens and its first fault: X.722, section 8.2.
use Rattle.std.specs.Prelude.{◌≡◌, ℕ, List, []}
use Rattle.text_lex.specs.Lexed.{AreTokensOf, Breaks}
use Rattle.token_grammar.specs.declared.token.Token.{Token}
use Rattle.text_lex.specs.declared.lex_refusal.LexKind.{LexKind}

-- a text has at most one list of tokens
abbrev pub OneListOfTokens : Type 0
OneListOfTokens = (text : List ℕ) (tokens others : List Token) → AreTokensOf text tokens → AreTokensOf text others
    → tokens ≡ others

-- a text has at most one first fault
abbrev pub OneFirstFault : Type 0
OneFirstFault = (text : List ℕ) (place other : ℕ) (kind another : LexKind) → Breaks text [] 0 place kind
    → Breaks text [] 0 other another → (place ≡ other) × (kind ≡ another)

-- no text has both
abbrev pub NeverTokensAndFault : Type 0
NeverTokensAndFault = (text : List ℕ) (tokens : List Token) (place : ℕ) (kind : LexKind) → AreTokensOf text tokens
    → ¬ Breaks text [] 0 place kind
