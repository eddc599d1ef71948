-- The front of a document has been read: what the loop of `lex` keeps, and one step of it.
use Rattle.std.proofs.Common.{◌≡◌, ℕ, ◌≤◌, Bool, false, List, [], ◌∷◌, ◌++◌, length, reverse, refl, sym, ap, subst}
use Rattle.std.proofs.Common.{arith, ◌∙◌, append_assoc}
use Rattle.std.proofs.lemmas.List.{append-nil}
use Rattle.text_lex.specs.Pieces.{IsGap, IsFault}
use Rattle.text_lex.specs.Lexed.{announces, IsToken, Lexed, Breaks, AreTokensOf}
use Rattle.text_lex.specs.Lexed.Lexed.{ended, gap, token}
use Rattle.text_lex.specs.Lexed.Breaks.{here, gap as past_gap, token as past_token}
use Rattle.token_grammar.specs.declared.token.Token.{Token}
use Rattle.text_lex.specs.declared.lex_refusal.LexKind.{LexKind}
use Rattle.text_lex.proofs.Announced.{reverse_push}
use Rattle.text_lex.proofs.Once.{tokens_or_fault}

-- these are the tokens up to i, and what is left has tokens or a fault as the whole has them
pub record IsRead (text : List ℕ) (tokens : List Token) (announced : Bool) (i : ℕ) : Type 0 where
  pub within : i ≤ length text
  pub announced_is : announced ≡ announces (reverse tokens)
  pub lexed : (rest : List Token) → Lexed text (reverse tokens) i rest → Lexed text [] 0 (tokens ++ rest)
  pub breaks : (place : ℕ) (kind : LexKind) → Breaks text (reverse tokens) i place kind → Breaks text [] 0 place kind

pub read_none : (text : List ℕ) (tokens : List Token) → tokens ≡ [] → IsRead text tokens false 0
unfolding announces
read_none text tokens none_read =
    let P : List Token → Type 0 = λ ts. IsRead text ts false 0 in
    subst P (sym none_read) (record {
      within = omega arith;
      announced_is = refl;
      lexed = λ rest r. r;
      breaks =
          λ place kind b. b;
    })

pub read_gap : (text : List ℕ) (tokens : List Token) (announced : Bool) (i k : ℕ) → IsRead text tokens announced i
    → IsGap text announced i k → k ≤ length text → IsRead text tokens announced k
read_gap text tokens announced i k read g within =
    let there = subst (λ a. IsGap text a i k) read.announced_is g in
    record {
      within = within;
      announced_is = read.announced_is;
      lexed = λ rest r. read.lexed rest (gap there r);
      breaks = λ place kind b. read.breaks place kind (past_gap there b);
    }

pub read_token : (text : List ℕ) (tokens more : List Token) (announced after : Bool) (i k : ℕ) (next : Token)
    → IsRead text tokens announced i → IsToken text announced i k next → k ≤ length text → more ≡ tokens ++ next ∷ []
    → after ≡ announces (reverse more) → IsRead text more after k
read_token text tokens more announced after i k next read one within pushed after_is =
    let there = subst (λ a. IsToken text a i k next) read.announced_is one in
    let turned = ap reverse pushed ∙ reverse_push tokens next in
    record {
      within = within;
      announced_is = after_is;
      lexed = λ rest r.
          let joined = ap (λ ts. ts ++ rest) pushed ∙ append_assoc tokens (next ∷ []) rest in
          subst (λ ts. Lexed text [] 0 ts) (sym joined)
          (read.lexed (next ∷ rest) (token there (subst (λ b. Lexed text b k rest) turned r)));
      breaks = λ place kind b. read.breaks place kind
          (past_token there (subst (λ ts. Breaks text ts k place kind) turned b));
    }

pub read_all : (text : List ℕ) (tokens : List Token) (announced : Bool) (i : ℕ) → IsRead text tokens announced i
    → length text ≤ i → AreTokensOf text tokens
read_all text tokens announced i read past =
    let end : i ≡ length text = omega (arith, read.within) in
    subst (λ ts. Lexed text [] 0 ts) (append-nil tokens) (read.lexed [] (ended end))

pub read_fault : (text : List ℕ) (tokens : List Token) (announced : Bool) (i : ℕ) (kind : LexKind)
    → IsRead text tokens announced i → IsFault text announced i kind → Breaks text [] 0 i kind
    × ((all : List Token) → ¬ AreTokensOf text all)
read_fault text tokens announced i kind read fault =
    let there = subst (λ a. IsFault text a i kind) read.announced_is fault in
    let broken = read.breaks i kind (here refl there) in
    (broken, λ all whole. tokens_or_fault text [] 0 i kind all whole broken)
