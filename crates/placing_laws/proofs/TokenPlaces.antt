-- TokenPlaces: the tokens of a document stand at rising places, so that no two of them stand at one.
use Rattle.std.proofs.Common.{◌≡◌, ℕ, zero, suc, ◌+◌, ◌<◌, ◌≤◌, List, [], ◌∷◌, refl, arith}
use Rattle.std.proofs.Common.{⊎_elim}
use Rattle.std.specs.Prelude.{All, AllPairs}
use Rattle.std.proofs.lemmas.List.Elements.{All-head, All-tail}
use Rattle.token_grammar.specs.declared.token.Token.{Token}
use Rattle.text_lex.specs.Lexed.{AreTokensOf}
use Rattle.text_lex.specs.Slices.{EndsBefore, IsSlice}
use Rattle.text_lex.proofs.Slices.{tokens_slices}
use Rattle.placing_laws.proofs.PlaceCounts.{there_or_not, up_to}

-- each token stands behind the place of the one before, and the first one from a place on
abbrev pub AreRising : ℕ → List Token → Type 0
AreRising from [] = Unit {0}
AreRising from (token ∷ tokens) = (from ≤ token.at) × AreRising (token.at + 1) tokens

rising_from : (text : List ℕ) (from : ℕ) (tokens : List Token) → All (λ token. from ≤ token.at) tokens →
    All (IsSlice text) tokens → AllPairs EndsBefore tokens → AreRising from tokens
rising_from text from [] behind slices rising = tt
rising_from text from (token ∷ tokens) behind slices rising = (
  All-head (λ (t : Token). from ≤ t.at) token tokens behind,
  rising_from text (token.at + 1) tokens
      (λ k d within.
      let longer = (All-head (IsSlice text) token tokens slices).nonempty in
      let next = rising 0 (suc k) d (omega arith) (omega arith) in
      omega arith)
      (All-tail (IsSlice text) token tokens slices)
      (λ i j d less within. rising (suc i) (suc j) d (omega arith) (omega arith)),
)

pub tokens_rise : {text : List ℕ} {tokens : List Token} → AreTokensOf text tokens → AreRising 0 tokens
tokens_rise {text} {tokens} lexed =
    let all = tokens_slices text [] 0 tokens lexed in
    rising_from text 0 tokens all.behind all.slices all.rising

-- ---- at most one token stands at a place

pub none_before : (p from : ℕ) (tokens : List Token) (k : ℕ) → p < from → AreRising from tokens →
    up_to p tokens k ≡ 0
none_before p from [] k less rising = refl
none_before p from (token ∷ tokens) zero less rising = refl
none_before p from (token ∷ tokens) (suc k) less rising =
    let first = rising.0 in
    let behind = none_before p (token.at + 1) tokens k (omega arith) rising.1 in
    ⊎_elim (λ zero_there. omega arith) (λ there. absurd (let e = there.1 in omega arith)) (there_or_not p token)

pub one_there : (p from : ℕ) (tokens : List Token) (k : ℕ) → AreRising from tokens → up_to p tokens k ≤ 1
one_there p from [] k rising = omega arith
one_there p from (token ∷ tokens) zero rising = omega arith
one_there p from (token ∷ tokens) (suc k) rising = ⊎_elim
    (λ other. let behind = one_there p (token.at + 1) tokens k rising.1 in omega arith)
    (λ there.
    let e = there.1 in
    let one = there.0 in
    let behind = none_before p (token.at + 1) tokens k (omega arith) rising.1 in
    omega arith) (there_or_not p token)
