-- ReadModules: that modules are those of the documents, and that the arcs of identifiers are whole numbers of 64 bits, as
-- in every text that is read (docs/PROFILE.md, sections 1 and 12).
use Rattle.std.specs.Prelude.{◌≡◌, ◌<◌, ◌^◌, ℕ, List, Some, All, map}
use Rattle.std.specs.Str.Parse.{IsNumeral}
use Rattle.token_grammar.specs.declared.token.Token.{Token}
use Rattle.asn1_syntax.specs.declared.module.Module.{Module}
use Rattle.gdmo_names.specs.FirstNames.{Registers, arc_value}
use Rattle.gdmo_names.specs.PartTerms.{Placed, PartTerms, arcs_at}
use Rattle.gdmo_names.specs.PartViews.{module_part}
use Rattle.gdmo_names.specs.TemplateTerms.{FirstTerm, IdentifierTerm}
use Rattle.gdmo_names.specs.TemplateTerms.FirstTerm.{ArcNumber, ArcName}

abbrev pub HasModules : PartTerms → List Module → Type 0
HasModules parts modules = parts.modules ≡ map module_part modules

-- digits that are a number of 64 bits
abbrev pub IsWhole : Token → Type 0
IsWhole token = IsNumeral 10 token.text × (arc_value token < 2 ^ 64)

abbrev pub IsWholeFirst : FirstTerm → Type 0
IsWholeFirst (ArcNumber token) = IsWhole token
IsWholeFirst (ArcName name) = Unit {0}

-- the arcs of an identifier that are stated in digits
abbrev pub HasWholeArcs : IdentifierTerm → Type 0
HasWholeArcs x = IsWholeFirst x.first × All IsWhole x.others

-- those of all templates and values
pub record AreWhole (parts : PartTerms) : Type 0 where
  pub of_templates : (by : Placed) (x : IdentifierTerm) → Registers parts by x → HasWholeArcs x
  pub of_values : (m i : ℕ) (x : IdentifierTerm) → arcs_at parts m i ≡ Some (Some x) → HasWholeArcs x
