-- OneType: when two types are one: their syntaxes are equal, with tags, OPTIONAL, names of numbers, of components and
-- bounds, but not the names of types, and DEFAULT stands at the same components of both (docs/PROFILE.md, section 12).
-- Which value a DEFAULT has isn't asked.
use Rattle.std.specs.Prelude.{◌↔◌, ◌∷◌, ℕ, List}
use Rattle.token_grammar.specs.declared.qualified_name.QualifiedName.{QualifiedName}
use Rattle.token_grammar.specs.Form.{Tree}
use Rattle.term_values.specs.Syntaxes.{TypeSyntax}
use Rattle.asn1_names.specs.ModuleTerms.{ModuleTerm}
use Rattle.asn1_names.specs.ResolvedTypes.{HasDefaultText}
use Rattle.gdmo_names.specs.TypeMeaning.{TypeHasSyntax, qualified_meaning}

-- the type that is named has DEFAULT at the component that this path tells, of any text
pub record HasDefaultAt (ms : List ModuleTerm) (name : QualifiedName) (path : List ℕ) : Type 0 where
  pub written_in : ℕ
  pub text : Tree
  pub stands : HasDefaultText ms (qualified_meaning ms name) path written_in text

abbrev pub HaveDefaultsAlike : List ModuleTerm → QualifiedName → QualifiedName → Type 0
HaveDefaultsAlike ms one other = (path : List ℕ) → HasDefaultAt ms one path ↔ HasDefaultAt ms other path

-- two types that are named are one
pub record AreOneType (ms : List ModuleTerm) (one other : QualifiedName) : Type 0 where
  pub syntax : TypeSyntax
  pub has : TypeHasSyntax ms one syntax
  pub has_too : TypeHasSyntax ms other syntax
  pub defaults : HaveDefaultsAlike ms one other

-- DEFAULT stands in the component at this place of a type where it stands in another type. Whether the component
-- itself has one isn't asked: its path ends there.
abbrev pub HasDefaultsOf : List ModuleTerm → QualifiedName → ℕ → QualifiedName → Type 0
HasDefaultsOf ms whole place other =
    (k : ℕ) (path : List ℕ) → HasDefaultAt ms whole (place ∷ (k ∷ path)) ↔ HasDefaultAt ms other (k ∷ path)
