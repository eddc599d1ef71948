-- ToldFacts: what is told of the types of modules: their nodes, and whether tags decide in them (X.680, sections 25.6,
-- 27.3 and 29.3; docs/PROFILE.md, section 11).
use Rattle.std.specs.Prelude.{◌≡◌, ◌≤◌, ◌↔◌, ℕ, List, Bool, IsTrue, min}
use Rattle.token_grammar.specs.declared.token.Token.{Token}
use Rattle.asn1_names.specs.CodeMeanings.{IsTypeOf}
use Rattle.asn1_names.specs.ModuleTerms.{TypeTerm, ModuleTerm}
use Rattle.asn1_names.specs.NodeCount.{HasNodes}
use Rattle.asn1_names.specs.TagClashes.{IsAmbiguous}

-- the nodes of the type of the assignment with the number; of more than 2^64 - 1 that number is told
abbrev pub TellsNodes : List ModuleTerm → ℕ → ℕ → Type 0
TellsNodes ms number told = (m : ℕ) (of : TypeTerm) → IsTypeOf ms number m of →
    (n : ℕ) × HasNodes ms m of n × (told ≡ min n 18446744073709551615)

-- whether tags don't decide in a type itself, where it has at most 10,000 nodes
abbrev pub TellsAmbiguous : List ModuleTerm → ℕ → TypeTerm → Bool → Type 0
TellsAmbiguous ms m of told = (n : ℕ) → HasNodes ms m of n → n ≤ 10000 →
    IsTrue told ↔ ((word : Token) × IsAmbiguous ms m of word)
