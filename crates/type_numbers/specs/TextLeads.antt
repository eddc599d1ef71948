-- TextLeads: where names lead that stand for types, by the numbers of assignments, to the text at their end (X.680,
-- section 16; docs/PROFILE.md, section 12).
use Rattle.std.specs.Prelude.{◌≡◌, ℕ, List, Option, None, Some, length, slice_get}
use Rattle.token_grammar.specs.declared.token.Token.{Token}
use Rattle.link_graphs.specs.ChainEnds.{AreEnds}
use Rattle.link_graphs.specs.declared.chains.Link.{Link}
use Rattle.link_graphs.specs.declared.chains.Link.TheVariants.{End, Next, Stop}
use Rattle.asn1_names.specs.AssignmentNumbers.{assignment_count, numbered_at}
use Rattle.asn1_names.specs.CodeMeanings.{IsTypeNumber, IsTypeOf}
use Rattle.asn1_names.specs.ModuleTerms.{LimitTerm, TypeTerm, ModuleTerm}
use Rattle.asn1_names.specs.ModuleTerms.TypeTerm.{Reference}
use Rattle.asn1_names.specs.NameMeaning.{Meaning, reference_meaning}
use Rattle.asn1_names.specs.NameMeaning.Meaning.{TypeAt, ValueAt, StandardType, Nothing}
use Rattle.asn1_names.specs.TypeWalks.{IsNoName}
use Rattle.key_numbers.specs.TypeKeys.{TypeKey}
use Rattle.type_numbers.specs.KeysBeside.{IsBeside}
use Rattle.type_numbers.specs.declared.type_texts.Lead.{Lead}
use Rattle.type_numbers.specs.declared.type_texts.Lead.TheVariants as leads

-- a type of the module at the place m is a name of the assigned type with this number
pub record NamesAssigned (ms : List ModuleTerm) (m : ℕ) (of : TypeTerm) (target : ℕ) : Type 0 where
  pub module_name : Option Token
  pub name : Token
  pub limits : List LimitTerm
  pub is : of ≡ Reference module_name name limits
  pub means : IsTypeNumber ms target (reference_meaning ms m module_name name)

-- it is a name of no assigned type
pub record NamesElsewhere (ms : List ModuleTerm) (m : ℕ) (of : TypeTerm) : Type 0 where
  pub module_name : Option Token
  pub name : Token
  pub limits : List LimitTerm
  pub is : of ≡ Reference module_name name limits
  pub unassigned : (v i : ℕ) (its : TypeTerm) → ¬ (reference_meaning ms m module_name name ≡ TypeAt v i its)

abbrev pub TellsLead : List ModuleTerm → ℕ → TypeTerm → Lead → Type 0
TellsLead ms m of (leads.Assigned target) = NamesAssigned ms m of target
TellsLead ms m of leads.Elsewhere = NamesElsewhere ms m of
TellsLead ms m of leads.Itself = IsNoName of

-- where the type of the assignment with a number leads
abbrev pub IsTextLink : List ModuleTerm → ℕ → Link → Type 0
IsTextLink ms number End =
    (m : ℕ) × (of : TypeTerm) × IsTypeOf ms number m of × ((target : ℕ) → ¬ NamesAssigned ms m of target)
IsTextLink ms number (Next target) =
    (m : ℕ) × (of : TypeTerm) × IsTypeOf ms number m of × NamesAssigned ms m of target
IsTextLink ms number Stop = numbered_at ms number ≡ None

-- the same of the types of all assignments
pub record AreTextLinks (ms : List ModuleTerm) (links : List Link) : Type 0 where
  pub size : length links ≡ assignment_count ms
  pub each : (number : ℕ) (link : Link) → slice_get links number ≡ Some link → IsTextLink ms number link

-- the numbers of the assignments at whose types names end, of the types of all assignments
pub record AreTextEnds (ms : List ModuleTerm) (numbers : List (Option ℕ)) : Type 0 where
  pub links : List Link
  pub are : AreTextLinks ms links
  pub ends : AreEnds links numbers

-- the key goes with the type of the assignment with this number
pub record IsAssignedBeside (ms : List ModuleTerm) (number : ℕ) (key : TypeKey) : Type 0 where
  pub home : ℕ
  pub of : TypeTerm
  pub is : IsTypeOf ms number home of
  pub beside : IsBeside ms home of key

-- the same of one whose type names no assigned type
pub record IsEndBeside (ms : List ModuleTerm) (number : ℕ) (key : TypeKey) : Type 0 where
  pub home : ℕ
  pub of : TypeTerm
  pub is : IsTypeOf ms number home of
  pub ends : (target : ℕ) → ¬ NamesAssigned ms home of target
  pub beside : IsBeside ms home of key

-- the text of the type that is meant; one of CMIP-1 has none
abbrev pub IsTextOf : Meaning → Option (ℕ × TypeTerm) → Type 0
IsTextOf (TypeAt m i of) text = text ≡ Some (m, of)
IsTextOf (StandardType syntax) text = text ≡ None
IsTextOf (ValueAt m i of number value) text = ⊥
IsTextOf Nothing text = ⊥
