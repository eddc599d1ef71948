-- TypeBase: the type that is left of a type beneath its names and tags, its named numbers, and the constraints that it
-- has a place for (X.680, sections 17, 19, 20, 31 and 49 to 51; docs/PROFILE.md, section 11).
use Rattle.std.specs.Prelude.{◌≡◌, ℕ, List, [], ◌∷◌, Bool, true, false, Option, None, Some, if◌then◌else◌}
use Rattle.token_grammar.specs.declared.token.Token.{Token}
use Rattle.term_values.specs.Syntaxes.{TypeSyntax}
use Rattle.term_values.specs.Syntaxes.TypeSyntax.{TextString, SequenceOf}
use Rattle.asn1_names.specs.ModuleTerms.{NumberTerm, NamedNumberTerm, LimitTerm, TagTerm, PlainTerm, TypeTerm}
use Rattle.asn1_names.specs.ModuleTerms.{ModuleTerm}
use Rattle.asn1_names.specs.ModuleTerms.LimitTerm.{SizeLimit, ValueLimit}
use Rattle.asn1_names.specs.ModuleTerms.PlainTerm.{OneWord, IntegerTerm, EnumeratedTerm, BitStringTerm}
use Rattle.asn1_names.specs.ModuleTerms.PlainTerm.{OctetStringTerm}
use Rattle.asn1_names.specs.ModuleTerms.TypeTerm.{Under, Repeated, Plain, Reference}
use Rattle.asn1_names.specs.NameMeaning.{is_called, reference_meaning}
use Rattle.asn1_names.specs.NameMeaning.Meaning.{TypeAt, StandardType}
use Rattle.asn1_names.specs.TypeWords.{one_word_type}

-- neither a tag nor a name
abbrev pub is_base : TypeTerm → Bool
is_base (Under tag mode of) = false
is_base (Reference module_name name limits) = false
is_base _ = true

-- a type as it is written in the module at a place, or a type of CMIP-1
pub data Base : Type 0 where
  Written : ℕ → TypeTerm → Base
  Standing : TypeSyntax → Base

-- what is left beneath the names and tags of a type of the module at the place m. A name of nothing has none, nor has
-- a name that leads back to itself.
pub data HasBase (ms : List ModuleTerm) : ℕ → TypeTerm → Base → Type 0 where
  itself : {m : ℕ} {of : TypeTerm} → is_base of ≡ true → HasBase ms m of (Written m of)
  tagged : {m : ℕ} {tag : TagTerm} {mode : Option Token} {of : TypeTerm} {base : Base} →
      HasBase ms m of base → HasBase ms m (Under tag mode of) base
  named : {m v i : ℕ} {module_name : Option Token} {name : Token} {limits : List LimitTerm} {of : TypeTerm}
      {base : Base} →
      reference_meaning ms m module_name name ≡ TypeAt v i of → HasBase ms v of base →
      HasBase ms m (Reference module_name name limits) base
  standard : {m : ℕ} {module_name : Option Token} {name : Token} {limits : List LimitTerm} {syntax : TypeSyntax} →
      reference_meaning ms m module_name name ≡ StandardType syntax →
      HasBase ms m (Reference module_name name limits) (Standing syntax)

-- the named numbers of INTEGER and ENUMERATED
abbrev pub plain_numbers : PlainTerm → List NamedNumberTerm
plain_numbers (IntegerTerm numbers) = numbers
plain_numbers (EnumeratedTerm numbers) = numbers
plain_numbers _ = []

abbrev pub named_numbers : TypeTerm → List NamedNumberTerm
named_numbers (Plain word plain limits) = plain_numbers plain
named_numbers _ = []

-- the number of the first that has the name
unfoldable pub number_called : List ℕ → List NamedNumberTerm → Option NumberTerm
number_called name [] = None
number_called name (x ∷ xs) = if is_called name x.name then Some x.number else number_called name xs

-- a type has a named number of this name; its number is written in the module at the place v
pub record HasNamedNumber (ms : List ModuleTerm) (m : ℕ) (of : TypeTerm) (name : Token) (v : ℕ) (number : NumberTerm)
    : Type 0 where
  pub base : TypeTerm
  pub has : HasBase ms m of (Written v base)
  pub called : number_called name.text (named_numbers base) ≡ Some number

-- a type of text
abbrev pub is_text : Option TypeSyntax → Bool
is_text (Some (TextString charset sizes)) = true
is_text _ = false

-- which plain types have a place for sizes, and which for ranges of values
abbrev pub plain_has_sizes : Token → PlainTerm → Bool
plain_has_sizes word OneWord = is_text (one_word_type word.text)
plain_has_sizes word (BitStringTerm bits) = true
plain_has_sizes word OctetStringTerm = true
plain_has_sizes word _ = false

abbrev pub plain_has_ranges : PlainTerm → Bool
plain_has_ranges (IntegerTerm numbers) = true
plain_has_ranges _ = false

abbrev pub has_sizes : Base → Bool
has_sizes (Written m (Plain word plain limits)) = plain_has_sizes word plain
has_sizes (Written m (Repeated word size of)) = true
has_sizes (Standing (SequenceOf member sizes)) = true
has_sizes _ = false

-- of the types of CMIP-1 none is a whole number
abbrev pub has_ranges : Base → Bool
has_ranges (Written m (Plain word plain limits)) = plain_has_ranges plain
has_ranges _ = false

-- the type has a place for the constraint
abbrev pub has_place : Base → LimitTerm → Bool
has_place base (SizeLimit ranges) = has_sizes base
has_place base (ValueLimit ranges) = has_ranges base
