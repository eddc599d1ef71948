-- NumbersFound: what the code tells of numbers, and of what is left of a type beneath its names and tags.
use Rattle.std.specs.Prelude.{◌≡◌, ℕ, ℤ, List, Option, None, Some, option_map}
use Rattle.std.specs.Borrow.{Bor}
use Rattle.indexmap.specs.IndexMap.{IndexMap}
use Rattle.asn1_values_syntax.specs.declared.numbers.Bound.{Bound}
use Rattle.token_grammar.specs.declared.token.Token.{Token}
use Rattle.asn1_names.specs.declared.numbers.Base.{Base as CodeBase}
use Rattle.asn1_names.specs.declared.numbers.Base.TheVariants as code
use Rattle.asn1_names.specs.declared.numbers.NumberFound.{NumberFound}
use Rattle.asn1_names.specs.declared.numbers.NumberFound.TheVariants as answer
use Rattle.asn1_names.specs.declared.numbers.NumberText.{NumberText}
use Rattle.asn1_names.specs.declared.numbers.NumberText.TheVariants as text
use Rattle.asn1_names.specs.CodeMeanings.{IsTypeOf}
use Rattle.asn1_names.specs.FirstNames.{found}
use Rattle.asn1_names.specs.ModuleFaults.{IsKnown, IsKnownBound, IsNoValue}
use Rattle.asn1_names.specs.ModuleTerms.{NumberTerm, TagTerm, TypeTerm, ModuleTerm}
use Rattle.asn1_names.specs.ModuleTerms.NumberTerm.{Digits, Called}
use Rattle.asn1_names.specs.ModuleTerms.TypeTerm.{Under}
use Rattle.asn1_names.specs.NameMeaning.{name_meaning}
use Rattle.asn1_names.specs.TermViews.{bound_term, type_term}
use Rattle.asn1_names.specs.TypeBase.{Base, HasBase, named_numbers, number_called}
use Rattle.asn1_names.specs.TypeBase.Base.{Written, Standing}
use Rattle.asn1_names.specs.WholeNumbers.{IsNumber, IsBound, NamesNumber}
use Rattle.asn1_names.specs.WordViews.{standard_syntax_of}

abbrev pub text_term : NumberText → NumberTerm
text_term (text.Digits minus token) = Digits minus token.now
text_term (text.Called token) = Called token.now

-- a name of no value stands for a number
abbrev pub IsUnknown : List ModuleTerm → ℕ → NumberTerm → Type 0
IsUnknown ms m (Digits minus token) = ⊥
IsUnknown ms m (Called name) = IsNoValue (name_meaning ms m name.text)

-- a name of no value, and of no named number of the type, stands for a bound
abbrev pub IsUnknownBound : List ModuleTerm → ℕ → TypeTerm → NumberTerm → Type 0
IsUnknownBound ms m of (Digits minus token) = ⊥
IsUnknownBound ms m of (Called name) = (¬ NamesNumber ms m of name) × IsNoValue (name_meaning ms m name.text)

-- what is told of a number of the module at the place m
abbrev pub FindsNumber : List ModuleTerm → ℕ → NumberTerm → NumberFound → Type 0
FindsNumber ms m number (answer.Number n) = IsNumber ms m number n
FindsNumber ms m number answer.NotNumber = IsKnown ms m number × ((n : ℤ) → ¬ IsNumber ms m number n)
FindsNumber ms m number answer.Unknown = IsUnknown ms m number

-- what is told of a bound of a type of the module at the place m
abbrev pub FindsBound : List ModuleTerm → ℕ → TypeTerm → NumberTerm → NumberFound → Type 0
FindsBound ms m of bound (answer.Number n) = IsBound ms m of bound n
FindsBound ms m of bound answer.NotNumber = IsKnownBound ms m of bound × ((n : ℤ) → ¬ IsBound ms m of bound n)
FindsBound ms m of bound answer.Unknown = IsUnknownBound ms m of bound

-- what is left of a type beneath its tags
abbrev pub beneath_tags : TypeTerm → TypeTerm
beneath_tags (Under tag mode of) = beneath_tags of
beneath_tags of = of

-- the type is what the assignment with the number, where there is one, has beneath its tags
abbrev pub IsHeldBy : List ModuleTerm → ℕ → TypeTerm → Option ℕ → Type 0
IsHeldBy ms m of None = Unit {0}
IsHeldBy ms m of (Some number) = (whole : TypeTerm) × IsTypeOf ms number m whole × (beneath_tags whole ≡ of)

-- what is told of the base of a type of the module at the place m
abbrev pub FindsBase : List ModuleTerm → ℕ → TypeTerm → CodeBase → Type 0
FindsBase ms m of (code.Written home top holder) =
    HasBase ms m of (Written home (type_term top.now)) × IsHeldBy ms home (type_term top.now) holder
FindsBase ms m of (code.Standing standard) = HasBase ms m of (Standing (standard_syntax_of standard))
FindsBase ms m of code.Nothing = (base : Base) → ¬ HasBase ms m of base

-- a base that is no assignment's is what the type itself has beneath its tags
abbrev pub IsOwn : TypeTerm → CodeBase → Type 0
IsOwn of (code.Written home top None) = type_term top.now ≡ beneath_tags of
IsOwn of (code.Written home top (Some number)) = Unit {0}
IsOwn of (code.Standing standard) = Unit {0}
IsOwn of code.Nothing = Unit {0}

-- the base, as the definitions see it
abbrev pub base_term : CodeBase → Option Base
base_term (code.Written home top holder) = Some (Written home (type_term top.now))
base_term (code.Standing standard) = Some (Standing (standard_syntax_of standard))
base_term code.Nothing = None

-- the number that a table has under a name
abbrev pub numbers_in : {S : Type 0} → IndexMap (Bor (List ℕ)) (Bor Bound) S → List ℕ → Option NumberTerm
numbers_in table name = option_map (λ bound. bound_term bound.now) (found table name)

-- a table has the named numbers that a type states itself
abbrev pub StatesNumbers : {S : Type 0} → IndexMap (Bor (List ℕ)) (Bor Bound) S → TypeTerm → Type 0
StatesNumbers table of = (name : List ℕ) → numbers_in table name ≡ number_called name (named_numbers of)

-- enough is told of the base of a type to know its named numbers; of a base that is no assignment's `own` has them
abbrev pub TellsNames : {S : Type 0} → List ModuleTerm → ℕ → TypeTerm → CodeBase →
    IndexMap (Bor (List ℕ)) (Bor Bound) S → Type 0
TellsNames ms m of (code.Written home top None) own =
    HasBase ms m of (Written home (type_term top.now)) × StatesNumbers own (type_term top.now)
TellsNames ms m of (code.Written home top (Some number)) own = FindsBase ms m of (code.Written home top (Some number))
TellsNames ms m of (code.Standing standard) own = FindsBase ms m of (code.Standing standard)
TellsNames ms m of code.Nothing own = (name : Token) → ¬ NamesNumber ms m of name
