-- NumberedBases: what is left of the types of assignments beneath their names and tags, by the numbers of the
-- assignments, and the named numbers of what is left (X.680, sections 17, 19, 20 and 31).
use Rattle.std.specs.Prelude.{◌≡◌, ℕ, List, true, Option, None, Some, slice_get}
use Rattle.std.specs.Borrow.{Bor}
use Rattle.std.specs.Option.{option_and_then}
use Rattle.indexmap.specs.IndexMap.{IndexMap}
use Rattle.token_grammar.specs.declared.token.Token.{Token}
use Rattle.asn1_values_syntax.specs.declared.numbers.Bound.{Bound}
use Rattle.term_values.specs.Syntaxes.{TypeSyntax}
use Rattle.link_graphs.specs.declared.chains.Link.{Link}
use Rattle.link_graphs.specs.declared.chains.Link.TheVariants.{End, Next, Stop}
use Rattle.asn1_names.specs.AssignmentNumbers.{numbered_at}
use Rattle.asn1_names.specs.CodeMeanings.{IsTypeNumber, IsTypeOf}
use Rattle.asn1_names.specs.ModuleTerms.{LimitTerm, ModuleTerm, NumberTerm, TypeTerm}
use Rattle.asn1_names.specs.ModuleTerms.TypeTerm.{Reference}
use Rattle.asn1_names.specs.NameMeaning.{reference_meaning}
use Rattle.asn1_names.specs.NameMeaning.Meaning.{StandardType}
use Rattle.asn1_names.specs.NumbersFound.{StatesNumbers, beneath_tags, numbers_in}
use Rattle.asn1_names.specs.TypeBase.{Base, HasBase, is_base, named_numbers, number_called}
use Rattle.asn1_names.specs.TypeBase.Base.{Written, Standing}

-- what a list of options holds at a place; nothing past its end
abbrev pub held_in : {X : Type 0} → List (Option X) → ℕ → Option X
held_in xs k = option_and_then (λ x. x) (slice_get xs k)

-- a type is its own base, or the name of a type of CMIP-1
pub data IsEnd (ms : List ModuleTerm) (m : ℕ) : TypeTerm → Base → Type 0 where
  written : {of : TypeTerm} → is_base of ≡ true → IsEnd ms m of (Written m of)
  standard : {module_name : Option Token} {name : Token} {limits : List LimitTerm} {syntax : TypeSyntax} →
      reference_meaning ms m module_name name ≡ StandardType syntax →
      IsEnd ms m (Reference module_name name limits) (Standing syntax)

-- the type of the one assignment has the base which that of the other is beneath its tags
pub record HasBaseAt (ms : List ModuleTerm) (number end : ℕ) : Type 0 where
  pub home : ℕ
  pub whole : TypeTerm
  pub is : IsTypeOf ms end home whole
  pub base : Base
  pub ends : IsEnd ms home (beneath_tags whole) base
  pub has : (m : ℕ) (of : TypeTerm) → IsTypeOf ms number m of → HasBase ms m of base

-- what is told of the base of the type of an assignment: the assignment that has it beneath its tags, or that there is
-- none
abbrev pub TellsBase : List ModuleTerm → ℕ → Option ℕ → Type 0
TellsBase ms number None = (m : ℕ) (of : TypeTerm) (base : Base) → IsTypeOf ms number m of → ¬ HasBase ms m of base
TellsBase ms number (Some end) = HasBaseAt ms number end

abbrev pub AreBases : List ModuleTerm → List (Option ℕ) → Type 0
AreBases ms bases = (number : ℕ) → TellsBase ms number (held_in bases number)

-- the type of an assignment is a name of the type of another one
pub record LeadsOn (ms : List ModuleTerm) (m : ℕ) (of : TypeTerm) (next : ℕ) : Type 0 where
  pub module_name : Option Token
  pub name : Token
  pub limits : List LimitTerm
  pub is : of ≡ Reference module_name name limits
  pub means : IsTypeNumber ms next (reference_meaning ms m module_name name)

-- where a type that is under no tag leads on to its base
abbrev pub LinksType : List ModuleTerm → ℕ → TypeTerm → Link → Type 0
LinksType ms m of End = (base : Base) × IsEnd ms m of base
LinksType ms m of (Next next) = LeadsOn ms m of next
LinksType ms m of Stop = (base : Base) → ¬ HasBase ms m of base

-- where the type of an assignment leads on to its base
pub data IsBaseLink (ms : List ModuleTerm) (number : ℕ) : Link → Type 0 where
  typed : {m : ℕ} {of : TypeTerm} {link : Link} → IsTypeOf ms number m of → LinksType ms m (beneath_tags of) link →
      IsBaseLink ms number link
  absent : numbered_at ms number ≡ None → IsBaseLink ms number Stop

-- a table has the named numbers of the type of an assignment beneath its tags
abbrev pub IsMapOf : {S : Type 0} → List ModuleTerm → ℕ → IndexMap (Bor (List ℕ)) (Bor Bound) S → Type 0
IsMapOf ms number table = (m : ℕ) (of : TypeTerm) → IsTypeOf ms number m of → StatesNumbers table (beneath_tags of)

abbrev pub numbers_under : {S : Type 0} → Option (IndexMap (Bor (List ℕ)) (Bor Bound) S) → List ℕ → Option NumberTerm
numbers_under None name = None
numbers_under (Some table) name = numbers_in table name

-- the number that the table at a place has under a name
abbrev pub numbers_at : {S : Type 0} → List (IndexMap (Bor (List ℕ)) (Bor Bound) S) → ℕ → List ℕ → Option NumberTerm
numbers_at maps number name = numbers_under (slice_get maps number) name

abbrev pub AreMaps : {S : Type 0} → List ModuleTerm → List (IndexMap (Bor (List ℕ)) (Bor Bound) S) → Type 0
AreMaps ms maps = (number m : ℕ) (of : TypeTerm) → IsTypeOf ms number m of → (name : List ℕ) →
    numbers_at maps number name ≡ number_called name (named_numbers (beneath_tags of))
