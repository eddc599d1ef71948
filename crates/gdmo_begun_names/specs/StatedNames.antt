-- StatedNames: with which first names the identifiers of templates and of modules begin, and of those from which
-- modules import (X.660, annex A; docs/PROFILE.md, section 12).
use Rattle.std.specs.Prelude.{◌≡◌, ℕ, List, Some}
use Rattle.asn1_syntax.specs.declared.module.Module.{Module}
use Rattle.token_grammar.specs.declared.token.Token.{Token}
use Rattle.gdmo_names.specs.FirstNames.{StandsIdentifier}
use Rattle.gdmo_names.specs.PartTerms.{ModulePart, Placed, PartTerms, identifier_of}
use Rattle.gdmo_names.specs.PartViews.{module_part}
use Rattle.gdmo_names.specs.TemplateTerms.{IdentifierTerm}
use Rattle.gdmo_names.specs.TemplateTerms.FirstTerm.{ArcName}
use Rattle.gdmo_begun_names.specs.BegunMarks.{AnyFirst, FirstSet}

abbrev pub StatedFirst : IdentifierTerm → FirstSet
StatedFirst x first = x.first ≡ ArcName first

abbrev pub FirstsOfModule : ModulePart → FirstSet
FirstsOfModule part = AnyFirst StatedFirst part.identifiers

abbrev pub FirstsOfModules : List Module → FirstSet
FirstsOfModules = AnyFirst (λ x. FirstsOfModule (module_part x))

-- the identifier under which a template is registered
abbrev pub TemplateFirst : Placed → FirstSet
TemplateFirst by first = (x : IdentifierTerm) × (identifier_of by.template ≡ Some x) × StatedFirst x first

-- some identifier of a document
pub record StatedFirsts (parts : PartTerms) (first : Token) : Type 0 where
  pub document : ℕ
  pub identifier : IdentifierTerm
  pub stands : StandsIdentifier parts document identifier
  pub begins : StatedFirst identifier first
