-- CodeMeanings: what the meanings that the code tells stand for: an assignment is told by its number among all.
use Rattle.std.specs.Prelude.{◌≡◌, ℕ, List, Option, None, Some}
use Rattle.token_grammar.specs.Form.{Tree}
use Rattle.token_grammar.specs.declared.token.Token.{Token}
use Rattle.asn1_syntax.specs.declared.plain_type.TypeName.{TypeName}
use Rattle.asn1_names.specs.declared.name_tables.Meaning.{Meaning as CodeMeaning}
use Rattle.asn1_names.specs.declared.name_tables.Meaning.TheVariants as code
use Rattle.asn1_names.specs.declared.name_tables.ModuleMeaning.{ModuleMeaning as CodeModuleMeaning}
use Rattle.asn1_names.specs.declared.name_tables.ModuleMeaning.TheVariants as module_code
use Rattle.asn1_names.specs.AssignmentNumbers.{Numbered, numbered_at}
use Rattle.asn1_names.specs.ModuleTerms.{NumberTerm, TypeTerm, AssignedTerm, AssignmentTerm, ModuleTerm}
use Rattle.asn1_names.specs.ModuleTerms.AssignedTerm.{AssignsType, AssignsValue}
use Rattle.asn1_names.specs.NameMeaning.{Meaning, ModuleMeaning, assigned_meaning}
use Rattle.asn1_names.specs.NameMeaning.Meaning.{TypeAt, ValueAt, StandardType, Nothing}
use Rattle.asn1_names.specs.NameMeaning.ModuleMeaning.{Standard, ModuleAt, NoModule}
use Rattle.asn1_names.specs.Occurrences.{type_assigned}
use Rattle.asn1_names.specs.WordViews.{standard_syntax_of}

abbrev pub module_meant : CodeModuleMeaning → ModuleMeaning
module_meant module_code.Standard = Standard
module_meant (module_code.At m) = ModuleAt m
module_meant module_code.Nothing = NoModule

-- the assignment with this number assigns a type, which is what is meant
pub record IsTypeNumber (ms : List ModuleTerm) (number : ℕ) (meaning : Meaning) : Type 0 where
  pub numbered : Numbered
  pub at : numbered_at ms number ≡ Some numbered
  pub of : TypeTerm
  pub assigns : numbered.assignment.assigned ≡ AssignsType of
  pub is : meaning ≡ TypeAt numbered.in_module numbered.place of

-- the assignment with this number assigns a value, which is what is meant
pub record IsValueNumber (ms : List ModuleTerm) (number : ℕ) (meaning : Meaning) : Type 0 where
  pub numbered : Numbered
  pub at : numbered_at ms number ≡ Some numbered
  pub of : TypeTerm
  pub stated : Option NumberTerm
  pub text : Tree
  pub assigns : numbered.assignment.assigned ≡ AssignsValue of stated text
  pub is : meaning ≡ ValueAt numbered.in_module numbered.place of stated text

-- what the code tells of a name is what it means
abbrev pub Means : List ModuleTerm → CodeMeaning → Meaning → Type 0
Means ms (code.TypeAt number) meaning = IsTypeNumber ms number meaning
Means ms (code.ValueAt number) meaning = IsValueNumber ms number meaning
Means ms (code.Standard standard) meaning = meaning ≡ StandardType (standard_syntax_of standard)
Means ms code.Nothing meaning = meaning ≡ Nothing

-- the assignment with a number, where there is one, is what is meant
abbrev pub TellsNumber : List ModuleTerm → Meaning → Option ℕ → Type 0
TellsNumber ms meaning None = meaning ≡ Nothing
TellsNumber ms meaning (Some k) = (x : Numbered) × (numbered_at ms k ≡ Some x)
    × (meaning ≡ assigned_meaning x.in_module x.place x.assignment.assigned)

-- the type of the assignment with this number, in the module at the place m: the one that it assigns, or the value's
pub record IsTypeOf (ms : List ModuleTerm) (number m : ℕ) (of : TypeTerm) : Type 0 where
  pub numbered : Numbered
  pub at : numbered_at ms number ≡ Some numbered
  pub module_is : numbered.in_module ≡ m
  pub is : type_assigned numbered.assignment.assigned ≡ of

-- the assignment with this number, in the module at the place m
pub record IsAssignment (ms : List ModuleTerm) (number m : ℕ) (assignment : AssignmentTerm) : Type 0 where
  pub numbered : Numbered
  pub at : numbered_at ms number ≡ Some numbered
  pub module_is : numbered.in_module ≡ m
  pub is : numbered.assignment ≡ assignment

-- the name of a type: the module before the point, where one stands, and the name itself
abbrev pub named_module : TypeName → Option Token
named_module x = elim x.member as (λ _. Option Token) [ None ↦ None | Some member ↦ Some x.name ]

abbrev pub named_type : TypeName → Token
named_type x = elim x.member as (λ _. Token) [ None ↦ x.name | Some member ↦ member ]
