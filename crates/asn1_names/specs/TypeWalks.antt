-- TypeWalks: which assigned types are named in the text of a type, by their numbers.
use Rattle.std.specs.Prelude.{◌≡◌, ℕ, List, Option, Some}
use Rattle.token_grammar.specs.declared.token.Token.{Token}
use Rattle.asn1_names.specs.AssignmentNumbers.{Numbered, numbered_at}
use Rattle.asn1_names.specs.CodeMeanings.{IsTypeOf}
use Rattle.asn1_names.specs.Containment.{Names}
use Rattle.asn1_names.specs.ModuleTerms.{LimitTerm, TypeTerm, ModuleTerm}
use Rattle.asn1_names.specs.ModuleTerms.TypeTerm.{Under, Structure, Repeated, Alternatives, Plain, Reference}

-- the type is neither a tag nor a list nor a structure, but a name
abbrev pub IsName : TypeTerm → Option Token → Token → Type 0
IsName of module_name name = (limits : List LimitTerm) × (of ≡ Reference module_name name limits)

-- the type is no name
abbrev pub IsNoName : TypeTerm → Type 0
IsNoName (Reference module_name name limits) = ⊥
IsNoName _ = Unit {0}

-- in the text of a type of the module at the place m stands a name of the assigned type with the number
pub record NamesType (ms : List ModuleTerm) (m : ℕ) (of : TypeTerm) (number : ℕ) : Type 0 where
  pub numbered : Numbered
  pub at : numbered_at ms number ≡ Some numbered
  pub names : Names ms m of numbered.in_module numbered.place

-- in the type of the assignment with one number, which a value may have, stands a name of that with another
pub record LeadsTo (ms : List ModuleTerm) (one other : ℕ) : Type 0 where
  pub m : ℕ
  pub of : TypeTerm
  pub is : IsTypeOf ms one m of
  pub names : NamesType ms m of other
