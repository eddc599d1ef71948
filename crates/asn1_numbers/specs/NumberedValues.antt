-- NumberedValues: which numbers the values are that modules assign, by the numbers of the assignments (X.680, sections
-- 16, 19 and 20).
use Rattle.std.specs.Prelude.{◌≡◌, ℕ, ℤ, List, Bool, Option, None, Some}
use Rattle.token_grammar.specs.Form.{Tree}
use Rattle.token_grammar.specs.declared.token.Token.{Token}
use Rattle.link_graphs.specs.declared.chains.Link.{Link}
use Rattle.link_graphs.specs.declared.chains.Link.TheVariants.{End, Next, Stop}
use Rattle.asn1_names.specs.declared.numbers.NumberFound.{NumberFound}
use Rattle.asn1_names.specs.declared.numbers.NumberFound.TheVariants as answer
use Rattle.asn1_names.specs.AssignmentNumbers.{Numbered, numbered_at}
use Rattle.asn1_names.specs.CodeMeanings.{IsValueNumber}
use Rattle.asn1_names.specs.ModuleTerms.{ModuleTerm, NumberTerm, TypeTerm}
use Rattle.asn1_names.specs.ModuleTerms.AssignedTerm.{AssignsValue}
use Rattle.asn1_names.specs.ModuleTerms.NumberTerm.{Digits, Called}
use Rattle.asn1_names.specs.NameMeaning.{Meaning, name_meaning}
use Rattle.asn1_names.specs.NameMeaning.Meaning.{Nothing}
use Rattle.asn1_names.specs.TypeBase.{HasNamedNumber}
use Rattle.asn1_names.specs.WholeNumbers.{IsNumber}
use Rattle.asn1_numbers.specs.NumberedBases.{held_in}

-- a value of a type, which is digits or a name alone, is a number: the digits, or the type's named number
pub data IsValueOf (ms : List ModuleTerm) (m : ℕ) (of : TypeTerm) : NumberTerm → ℤ → Type 0 where
  digits : {minus : Bool} {token : Token} {n : ℤ} → IsNumber ms m (Digits minus token) n →
      IsValueOf ms m of (Digits minus token) n
  named_number : {w : ℕ} {name : Token} {number : NumberTerm} {n : ℤ} → HasNamedNumber ms m of name w number →
      IsNumber ms w number n → IsValueOf ms m of (Called name) n

-- the assignment with the number, in the module at the place m, assigns a value of this type, which is this number or
-- name, if it is one alone
pub record AssignsStated (ms : List ModuleTerm) (number m : ℕ) (of : TypeTerm) (stated : Option NumberTerm) : Type 0
  where
    pub numbered : Numbered
    pub at : numbered_at ms number ≡ Some numbered
    pub module_is : numbered.in_module ≡ m
    pub text : Tree
    pub assigns : numbered.assignment.assigned ≡ AssignsValue of stated text

-- the assignment with the number assigns a value that is the number n
pub record HasValue (ms : List ModuleTerm) (number : ℕ) (n : ℤ) : Type 0 where
  pub m : ℕ
  pub of : TypeTerm
  pub stated : NumberTerm
  pub assigns : AssignsStated ms number m of (Some stated)
  pub is : IsValueOf ms m of stated n

-- what is told of the value of an assignment
abbrev pub TellsValue : List ModuleTerm → ℕ → Option ℤ → Type 0
TellsValue ms number None = (n : ℤ) → ¬ HasValue ms number n
TellsValue ms number (Some n) = HasValue ms number n

abbrev pub AreValues : List ModuleTerm → List (Option ℤ) → Type 0
AreValues ms values = (number : ℕ) → TellsValue ms number (held_in values number)

-- what is told of digits, or of a name
abbrev pub TellsSaid : List ModuleTerm → ℕ → NumberTerm → Option ℤ → Type 0
TellsSaid ms m number None = (n : ℤ) → ¬ IsNumber ms m number n
TellsSaid ms m number (Some n) = IsNumber ms m number n

-- what the name means that stands for a number
abbrev pub number_meaning : List ModuleTerm → ℕ → NumberTerm → Meaning
number_meaning ms m (Digits minus token) = Nothing
number_meaning ms m (Called name) = name_meaning ms m name.text

-- where a number leads on to its digits, and what these are where they stand here
abbrev pub LinksNumber : List ModuleTerm → ℕ → NumberTerm → Link → Option ℤ → Type 0
LinksNumber ms m number End stated = TellsSaid ms m number stated
LinksNumber ms m number (Next next) stated = IsValueNumber ms next (number_meaning ms m number)
LinksNumber ms m number Stop stated = (n : ℤ) → ¬ IsNumber ms m number n

-- the value of an assignment is a named number, for which the name of the value of another one stands
pub record LeadsToValue (ms : List ModuleTerm) (number next : ℕ) : Type 0 where
  pub m : ℕ
  pub of : TypeTerm
  pub name : Token
  pub assigns : AssignsStated ms number m of (Some (Called name))
  pub w : ℕ
  pub further : NumberTerm
  pub has : HasNamedNumber ms m of name w further
  pub means : IsValueNumber ms next (number_meaning ms w further)

-- where the value of an assignment leads on to its digits, and what these are where they stand here
abbrev pub IsValueLink : List ModuleTerm → ℕ → Link → Option ℤ → Type 0
IsValueLink ms number End stated = TellsValue ms number stated
IsValueLink ms number (Next next) stated = LeadsToValue ms number next
IsValueLink ms number Stop stated = (n : ℤ) → ¬ HasValue ms number n

-- the number at the end to which an assignment leads
abbrev pub value_at_end : List (Option ℤ) → Option ℕ → Option ℤ
value_at_end own None = None
value_at_end own (Some end) = held_in own end

-- what is told of the named number of this name of a type, which stands in the module at the place w
abbrev pub TellsNamed : List ModuleTerm → ℕ → TypeTerm → Token → ℕ → Option NumberTerm → Type 0
TellsNamed ms m of name w None = (v : ℕ) (said : NumberTerm) → ¬ HasNamedNumber ms m of name v said
TellsNamed ms m of name w (Some said) = HasNamedNumber ms m of name w said

-- the answer, where a number was told or not
abbrev pub number_answer : Option ℤ → NumberFound
number_answer None = answer.NotNumber
number_answer (Some n) = answer.Number n

-- the answer for the named number of a bound, which is known
abbrev pub known_answer : NumberFound → NumberFound
known_answer (answer.Number n) = answer.Number n
known_answer answer.NotNumber = answer.NotNumber
known_answer answer.Unknown = answer.NotNumber
