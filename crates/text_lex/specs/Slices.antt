-- Tokens as slices of their document, in order: X.722, section 8.2.
use Rattle.std.specs.Prelude.{◌≡◌, ℕ, ◌+◌, ◌<◌, ◌≤◌, List, length, slice_range}
use Rattle.token_grammar.specs.declared.token.Token.{Token}

-- a token is what stands in the text at its place, and isn't empty
pub record IsSlice (text : List ℕ) (token : Token) : Type 0 where
  pub nonempty : 0 < length token.text
  pub within : token.at + length token.text ≤ length text
  pub slice : token.text ≡ slice_range text token.at (token.at + length token.text)

-- a token ends before another begins, or where it begins
abbrev pub EndsBefore : Token → Token → Type 0
EndsBefore earlier later = earlier.at + length earlier.text ≤ later.at
