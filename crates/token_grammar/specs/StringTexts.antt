-- StringTexts: what a string denotes (X.722, section 8.2; docs/PROFILE.md, section 1).
use Rattle.std.specs.Prelude.{◌≡◌, ◌≢◌, ℕ, List, [], ◌∷◌, ◌++◌}
use Rattle.token_grammar.specs.declared.token.Token.{Token}
use Rattle.token_grammar.specs.Kinds.{string_kind}

-- octets between delimiters stand for themselves, and a doubled delimiter for one
pub data Between (delimiter : ℕ) : List ℕ → List ℕ → Type 0 where
  nothing : Between delimiter [] []
  octet : {x : ℕ} {written value : List ℕ} → x ≢ delimiter → Between delimiter written value → Between delimiter
      (x ∷ written) (x ∷ value)
  doubled : {written value : List ℕ} → Between delimiter written value → Between delimiter
      (delimiter ∷ (delimiter ∷ written)) (delimiter ∷ value)

-- a string denotes what stands between the delimiter with which it begins and the same one at its end
pub record DenotesText (token : Token) (value : List ℕ) : Type 0 where
  pub delimiter : ℕ
  pub written : List ℕ
  pub is_string : token.kind ≡ string_kind
  pub delimited : token.text ≡ delimiter ∷ (written ++ (delimiter ∷ []))
  pub between : Between delimiter written value
