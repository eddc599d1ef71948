-- Keywords: the table of ASN.1's forms is decided by the list of the words that name nothing (X.680, section
-- 12.38; docs/PROFILE.md, section 8). Texts that differ in names alone have the same readings and faults.
use Rattle.std.specs.Prelude.{◌≡◌, ℕ, true, List, Option, None, Some, ◌⊎◌, slice_get}
use Rattle.token_grammar.specs.declared.token.Token.{Token}
use Rattle.token_grammar.specs.Form.{Tree, Named}
use Rattle.token_grammar.specs.Spelling.{Spells}
use Rattle.token_grammar.specs.Beginning.{Begins}
use Rattle.token_grammar.specs.TokenTests.{is_name}
use Rattle.asn1_values_syntax.specs.Asn1.{asn1}

-- the same token, or two names
abbrev pub Alike : Option Token → Option Token → Type 0
Alike None None = Unit {0}
Alike None (Some u) = ⊥
Alike (Some t) None = ⊥
Alike (Some t) (Some u) = (t ≡ u) ⊎ ((is_name t ≡ true) × (is_name u ≡ true))

-- tokens that differ in names alone
pub record SameButNames (ts us : List Token) : Type 0 where
  pub alike : (i : ℕ) → Alike (slice_get ts i) (slice_get us i)

-- Where the one text spells a form, or begins it, so does the other, from the same place to the same place.
pub record IsDecided (ts us : List Token) (n i k : ℕ) : Type 0 where
  pub spelt : (a : Tree) → Spells ts asn1 (Named n) i k a → (b : Tree) × Spells us asn1 (Named n) i k b
  pub begun : Begins ts asn1 (Named n) i k → Begins us asn1 (Named n) i k

abbrev pub DecidedByKeywords : Type 0
DecidedByKeywords = (ts us : List Token) → SameButNames ts us → (n i k : ℕ) → IsDecided ts us n i k
