-- MeaningKeys: which key the type has that a name means: its syntax, and DEFAULT where it stands beside it (X.680,
-- section 25.1; docs/PROFILE.md, section 12).
use Rattle.std.specs.Prelude.{◌≡◌, ◌↔◌, ℕ, List, true}
use Rattle.token_grammar.specs.Form.{Tree}
use Rattle.asn1_names.specs.ModuleTerms.{ModuleTerm}
use Rattle.asn1_names.specs.NameMeaning.{Meaning}
use Rattle.asn1_names.specs.NodeCount.{IsNoType}
use Rattle.asn1_names.specs.ResolvedTypes.{HasDefaultText, HasSyntax}
use Rattle.key_numbers.specs.TypeKeys.{TypeKey, has_mark, key_syntax}

-- DEFAULT stands at the component that this path tells, of any text
pub record StandsDefault (ms : List ModuleTerm) (meant : Meaning) (path : List ℕ) : Type 0 where
  pub written_in : ℕ
  pub text : Tree
  pub stands : HasDefaultText ms meant path written_in text

-- the type that is meant has this key
pub record IsKeyOf (ms : List ModuleTerm) (meant : Meaning) (key : TypeKey) : Type 0 where
  pub is_type : ¬ IsNoType meant
  pub syntax : HasSyntax ms meant (key_syntax key)
  pub marks : (path : List ℕ) → StandsDefault ms meant path ↔ (has_mark key path ≡ true)
