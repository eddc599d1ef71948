-- BuiltSyntaxes: under which conditions what is built of a type is what it denotes (X.680, sections 19 to 22 and 49
-- to 51).
use Rattle.std.specs.Prelude.{◌≡◌, ◌∷◌, [], ℕ, List, Bool, Contains, Option, true, None, Some}
use Rattle.term_values.specs.Syntaxes.{TypeSyntax}
use Rattle.term_values.specs.declared.syntax.Part.{Part as PartOfSyntax}
use Rattle.token_grammar.specs.declared.token.Token.{Token}
use Rattle.asn1_syntax.specs.declared.type_text.Alternative.{Alternative}
use Rattle.asn1_syntax.specs.declared.type_text.Component.{Component}
use Rattle.asn1_names.specs.Constraining.{is_size_limit, limit_ranges}
use Rattle.asn1_names.specs.DenotedSyntax.{PlainDenotes, size_limits}
use Rattle.asn1_names.specs.ModuleTerms.{LimitTerm, RangeTerm, TypeTerm, ModuleTerm}
use Rattle.asn1_names.specs.ModuleTerms.PresenceTerm.{Needed}
use Rattle.asn1_names.specs.ModuleTerms.TypeTerm.{Plain, Repeated}
use Rattle.asn1_names.specs.Narrowing.{can_narrow}
use Rattle.asn1_names.specs.PassedNames.{Passed, passed_type}
use Rattle.asn1_names.specs.SaidNumbers.{AllSayBounds, SaysPlain}
use Rattle.asn1_names.specs.TermViews.{presence_term, type_term}
use Rattle.asn1_names.specs.TypeWords.{one_word_type}
use Rattle.asn1_names.specs.WholeNumbers.{NamesNumber}
use Rattle.asn1_types.specs.MeasuredTypes.{OneMember}

-- the bounds of each constraint say numbers, and the syntax has a place for it
pub record TakesLimits (ms : List ModuleTerm) (m : ℕ) (of : TypeTerm) (limits : List LimitTerm) (syntax : TypeSyntax)
    : Type 0 where
  pub said : (limit : LimitTerm) → Contains limits limit → AllSayBounds ms m of (limit_ranges limit)
  pub placed : (limit : LimitTerm) → Contains limits limit → can_narrow (is_size_limit limit) syntax ≡ true

-- a type has no named numbers
abbrev pub HasNoNames : List ModuleTerm → ℕ → TypeTerm → Type 0
HasNoNames ms m of = (name : Token) → ¬ NamesNumber ms m of name

-- what a type of one word denotes, where the word is one that documents may use
abbrev pub IsWordSyntax : List ℕ → TypeSyntax → Type 0
IsWordSyntax word syntax = ¬ (one_word_type word ≡ None) → one_word_type word ≡ Some syntax

-- what a type that holds no other denotes without its constraints, where its numbers are said; of a name nothing
abbrev pub PlainIsDenoted : List ModuleTerm → ℕ → TypeTerm → TypeSyntax → Type 0
PlainIsDenoted ms m (Plain word of limits) syntax = SaysPlain ms m word of → PlainDenotes ms m word of syntax
PlainIsDenoted ms m _ syntax = Unit {0}

-- components and alternatives as members
abbrev pub component_member : Component → OneMember
component_member x = record { name = x.name; of = type_term x.of; presence = presence_term x.presence }

abbrev pub alternative_member : Alternative → OneMember
alternative_member x = record { name = x.name; of = type_term x.of; presence = Needed }

-- so it is at each of the names that were passed
abbrev pub AllTakeLimits : List ModuleTerm → List Passed → TypeSyntax → Type 0
AllTakeLimits ms [] syntax = Unit {0}
AllTakeLimits ms (x ∷ path) syntax =
    TakesLimits ms x.home (passed_type x) x.limits syntax × AllTakeLimits ms path syntax

-- the sizes before OF say numbers
abbrev pub AreSizesSaid : List ModuleTerm → ℕ → Token → Option (List RangeTerm) → TypeTerm → Type 0
AreSizesSaid ms m word size of = (limit : LimitTerm) → Contains (size_limits size) limit →
    AllSayBounds ms m (Repeated word size of) (limit_ranges limit)

-- a part of a syntax, of this name, that has no value of its own where it is left out
pub record IsPart (part : PartOfSyntax) (name : List ℕ) (syntax : TypeSyntax) (optional : Bool) : Type 0 where
  pub called : part.name ≡ name
  pub of : part.syntax ≡ syntax
  pub may_miss : part.optional ≡ optional
  pub no_default : part.default ≡ None
