-- FollowedNames: what a type is or names: the next assigned type, a type of CMIP-1, or neither (X.680, section 16).
use Rattle.std.specs.Prelude.{◌≡◌, ◌∷◌, [], ℕ, List, Option, Some, map}
use Rattle.std.specs.Borrow.{Bor}
use Rattle.token_grammar.specs.declared.token.Token.{Token}
use Rattle.asn1_syntax.specs.declared.type_text.TypeText.{TypeText}
use Rattle.asn1_names.specs.declared.standard_module.StandardType.{StandardType}
use Rattle.asn1_names.specs.AssignmentNumbers.{Numbered, numbered_at}
use Rattle.asn1_names.specs.ModuleTerms.{LimitTerm, TypeTerm, ModuleTerm}
use Rattle.asn1_names.specs.ModuleTerms.AssignedTerm.{AssignsType}
use Rattle.asn1_names.specs.ModuleTerms.TypeTerm.{Reference}
use Rattle.asn1_names.specs.NameMeaning.{reference_meaning}
use Rattle.asn1_names.specs.NameMeaning.Meaning.{TypeAt, StandardType as MeansStandard}
use Rattle.asn1_names.specs.NodeCount.{IsNoType}
use Rattle.asn1_names.specs.PassedNames.{Passed, passed_type}
use Rattle.asn1_names.specs.TermViews.{type_term}
use Rattle.asn1_names.specs.TypeWalks.{IsNoName}
use Rattle.asn1_names.specs.WordViews.{standard_syntax_of}

-- a type of the module at the place m is a name of the type at the place v
pub record NamesNext (ms : List ModuleTerm) (m : ℕ) (of : TypeTerm) (v : ℕ) (named : TypeTerm) : Type 0 where
  pub module_name : Option Token
  pub name : Token
  pub limits : List LimitTerm
  pub is : of ≡ Reference module_name name limits
  pub number : ℕ
  pub numbered : Numbered
  pub at : numbered_at ms number ≡ Some numbered
  pub assigns : numbered.assignment.assigned ≡ AssignsType named
  pub in_module : numbered.in_module ≡ v
  pub means : reference_meaning ms m module_name name ≡ TypeAt numbered.in_module numbered.place named

-- a type is a name of a type of CMIP-1
pub record NamesStandard (ms : List ModuleTerm) (m : ℕ) (of : TypeTerm) (standard : StandardType) : Type 0 where
  pub module_name : Option Token
  pub name : Token
  pub limits : List LimitTerm
  pub is : of ≡ Reference module_name name limits
  pub means : reference_meaning ms m module_name name ≡ MeansStandard (standard_syntax_of standard)

-- a type is no name, or a name of no type
pub data NamesNothing (ms : List ModuleTerm) (m : ℕ) : TypeTerm → Type 0 where
  no_name : {of : TypeTerm} → IsNoName of → NamesNothing ms m of
  unknown : {module_name : Option Token} {name : Token} {limits : List LimitTerm} →
      IsNoType (reference_meaning ms m module_name name) → NamesNothing ms m (Reference module_name name limits)

-- names with the places of their modules, as the code keeps them
abbrev pub kept_name : ℕ × Bor TypeText → ℕ × TypeTerm
kept_name x = (x.0, type_term x.1.now)

abbrev pub passed_name : Passed → ℕ × TypeTerm
passed_name x = (x.home, passed_type x)

abbrev pub AreKept : List (ℕ × Bor TypeText) → List Passed → Type 0
AreKept kept path = map kept_name kept ≡ map passed_name path

-- the name by which one type leads to the next
abbrev pub name_passed : {ms : List ModuleTerm} {m v : ℕ} {of named : TypeTerm} → NamesNext ms m of v named → Passed
name_passed {m = m} n = record { home = m; module_name = n.module_name; name = n.name; limits = n.limits }

-- a type of the module at the place m leads by names to one of the module at the place v
pub data LeadsBy (ms : List ModuleTerm) : ℕ → TypeTerm → List Passed → ℕ → TypeTerm → Type 0 where
  arrived : {m : ℕ} {of : TypeTerm} → LeadsBy ms m of [] m of
  further : {m v w : ℕ} {of named end : TypeTerm} {path : List Passed} (next : NamesNext ms m of v named) →
      LeadsBy ms v named path w end → LeadsBy ms m of (name_passed next ∷ path) w end
