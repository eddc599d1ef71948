-- ModuleValues: with which first names the values begin that modules assign, and those that stand behind DEFAULT
-- (X.680, sections 16 and 25; docs/PROFILE.md, section 12).
use Rattle.std.specs.Prelude.{◌≡◌, ◌<◌, ℕ, [], List, Option, Some, Contains, slice_get}
use Rattle.token_grammar.specs.declared.token.Token.{Token}
use Rattle.token_grammar.specs.Form.{Tree}
use Rattle.term_values.specs.Syntaxes.{TypeSyntax}
use Rattle.asn1_names.specs.AssignmentNumbers.{Numbered, numbered_at}
use Rattle.asn1_syntax.specs.declared.plain_type.TypeName.{TypeName}
use Rattle.asn1_names.specs.CodeMeanings.{IsTypeNumber, named_module, named_type}
use Rattle.asn1_names.specs.Containment.{IsMember}
use Rattle.asn1_names.specs.DenotedSyntax.{Denotes}
use Rattle.asn1_names.specs.ModuleTerms.{AssignmentTerm, LimitTerm, MemberTerms, ModuleTerm, NumberTerm, TypeTerm}
use Rattle.asn1_names.specs.ModuleTerms.AssignedTerm.{AssignsValue}
use Rattle.asn1_names.specs.ModuleTerms.PresenceTerm.{DefaultTerm}
use Rattle.asn1_names.specs.ModuleTerms.TypeTerm.{Reference, Structure}
use Rattle.asn1_names.specs.NameMeaning.{Meaning, reference_meaning}
use Rattle.asn1_names.specs.Occurrences.{Stands, type_assigned}
use Rattle.asn1_names.specs.TermViews.{module_terms}
use Rattle.asn1_types.specs.ToldMeanings.{TellsSyntax}
use Rattle.gdmo_names.specs.ValueNames.{BeginsIn}
use Rattle.gdmo_begun_names.specs.BegunMarks.{FirstSet}
use Rattle.begun_values.specs.DefaultNames.{DefaultFirsts, DenotedFirsts}
use Rattle.begun_values.specs.MeantSyntaxes.{BeginsOf}
use Rattle.begun_values.specs.declared.module_values.LastSyntax.{LastSyntax}
use Rattle.begun_values.specs.declared.resolved_modules.ResolvedModules.{ResolvedModules}

-- a value that a module assigns, or that stands behind DEFAULT, has this text and this syntax
pub data IsModuleValue (ms : List ModuleTerm) (text : Tree) (syntax : TypeSyntax) : Type 0 where
  assigned : {m : ℕ} {x : ModuleTerm} {assignment : AssignmentTerm} {of : TypeTerm} {number : Option NumberTerm} →
      slice_get ms m ≡ Some x → Contains x.assignments assignment →
      assignment.assigned ≡ AssignsValue of number text → Denotes ms m of syntax → IsModuleValue ms text syntax
  default : {document m k : ℕ} {word : Token} {members : MemberTerms} {limits : List LimitTerm} {of : TypeTerm} →
      Stands ms document m (Structure word members limits) → IsMember members k of (DefaultTerm text) →
      Denotes ms m of syntax → IsModuleValue ms text syntax

-- such a value begins with the name
pub record ModuleFirsts (ms : List ModuleTerm) (first : Token) : Type 0 where
  pub text : Tree
  pub syntax : TypeSyntax
  pub stands : IsModuleValue ms text syntax
  pub begins : BeginsIn first syntax text

-- the value of the assignment with a number does, and a value behind DEFAULT in its type
pub record AssignedFirsts (ms : List ModuleTerm) (number : ℕ) (first : Token) : Type 0 where
  pub numbered : Numbered
  pub at : numbered_at ms number ≡ Some numbered
  pub of : TypeTerm
  pub stated : Option NumberTerm
  pub text : Tree
  pub assigns : numbered.assignment.assigned ≡ AssignsValue of stated text
  pub begins : BeginsOf (Denotes ms numbered.in_module of) text first

pub record DefaultFirstsAt (ms : List ModuleTerm) (number : ℕ) (first : Token) : Type 0 where
  pub numbered : Numbered
  pub at : numbered_at ms number ≡ Some numbered
  pub begins : DefaultFirsts (DenotedFirsts ms numbered.in_module) (type_assigned numbered.assignment.assigned) first

-- one of the numbers below this one
abbrev pub BelowFirsts : (ℕ → FirstSet) → ℕ → FirstSet
BelowFirsts Firsts count first = (number : ℕ) × (number < count) × Firsts number first

-- the assignment with this number, of the module at the place m, assigns this value
pub record IsAssignedValue (ms : List ModuleTerm) (number m : ℕ) (of : TypeTerm) (text : Tree) : Type 0 where
  pub numbered : Numbered
  pub at : numbered_at ms number ≡ Some numbered
  pub module_is : numbered.in_module ≡ m
  pub stated : Option NumberTerm
  pub assigns : numbered.assignment.assigned ≡ AssignsValue of stated text

-- a type is this name, without constraints
abbrev pub IsBareName : TypeTerm → TypeName → Type 0
IsBareName of name = of ≡ Reference (named_module name) (named_type name) []

-- a type of the module at the place m is the name of the assigned type with this number, without constraints
pub record IsNameOf (ms : List ModuleTerm) (m : ℕ) (of : TypeTerm) (target : ℕ) : Type 0 where
  pub module_name : Option Token
  pub name : Token
  pub is : of ≡ Reference module_name name []
  pub means : IsTypeNumber ms target (reference_meaning ms m module_name name)

-- what is kept is the syntax of the assigned type with the number that is kept
abbrev pub IsLast : List ModuleTerm → LastSyntax → Type 0
IsLast ms last = (meant : Meaning) → IsTypeNumber ms last.target meant → TellsSyntax ms meant last.syntax

-- the tables and the types are those of these modules
pub record AreResolved (ms : List ModuleTerm) (modules : ResolvedModules) : Type 0 where
  pub of_tables : module_terms modules.tables.now ≡ ms
  pub of_types : module_terms modules.types.now ≡ ms
