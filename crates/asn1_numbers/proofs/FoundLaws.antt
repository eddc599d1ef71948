-- FoundLaws: what is told of a number, of a bound and of a tag.
use Rattle.std.specs.Prelude.{◌≡◌, ℕ, ℤ, pos, List, Bool, Option, None, Some}
use Rattle.std.proofs.Common.{ap, sym, ◌∙◌}
use Rattle.token_grammar.specs.declared.token.Token.{Token}
use Rattle.term_values.specs.declared.tag.Tag.{Tag}
use Rattle.term_values.specs.Syntaxes.{TypeSyntax}
use Rattle.asn1_names.specs.declared.numbers.NumberFound.{NumberFound}
use Rattle.asn1_names.specs.declared.numbers.NumberFound.TheVariants as answer
use Rattle.asn1_names.specs.CodeMeanings.{IsTypeOf, IsValueNumber}
use Rattle.asn1_names.specs.ModuleTerms.{ModuleTerm, NumberTerm, TagTerm, TypeTerm}
use Rattle.asn1_names.specs.ModuleTerms.NumberTerm.{Digits, Called}
use Rattle.asn1_names.specs.NameMeaning.{name_meaning}
use Rattle.asn1_names.specs.NumbersFound.{FindsBound, FindsNumber, IsHeldBy, IsUnknown, beneath_tags}
use Rattle.asn1_names.specs.TypeBase.{HasBase, HasNamedNumber, named_numbers, number_called}
use Rattle.asn1_names.specs.TypeBase.Base.{Written, Standing}
use Rattle.asn1_names.specs.WholeNumbers.{IsBound, IsNumber, IsTag}
use Rattle.asn1_names.specs.WholeNumbers.IsBound.{digits as bound_digits, named_number, value as bound_value}
use Rattle.asn1_names.proofs.OneNumber.{one_base, one_named, one_number}
use Rattle.asn1_numbers.specs.NumberedValues.{TellsNamed, TellsSaid, TellsValue, known_answer}
use Rattle.asn1_numbers.specs.NumberedValues.{number_answer}
use Rattle.asn1_numbers.proofs.HeldLaws.{none_some}
use Rattle.asn1_numbers.proofs.ValueLaws.{at_number, number_value, no_value, value_is_value, value_number}

-- ---- a name of a value

pub value_found : (ms : List ModuleTerm) (k m : ℕ) (name : Token) (told : Option ℤ) →
    IsValueNumber ms k (name_meaning ms m name.text) → TellsValue ms k told →
    FindsNumber ms m (Called name) (number_answer told)
value_found ms k m name None means unless = (
  λ none_is. value_is_value ms k (name_meaning ms m name.text) means none_is,
  λ n is. unless n (number_value is k means),
)
value_found ms k m name (Some n) means has = value_number ms k m (Called name) n means has

pub digits_found : (ms : List ModuleTerm) (m : ℕ) (minus : Bool) (token : Token) (told : Option ℤ) →
    TellsSaid ms m (Digits minus token) told → FindsNumber ms m (Digits minus token) (number_answer told)
digits_found ms m minus token None unless = (tt, unless)
digits_found ms m minus token (Some n) is = is

-- ---- bounds

unknown_number : {ms : List ModuleTerm} {m : ℕ} (number : NumberTerm) {n : ℤ} → IsUnknown ms m number →
    IsNumber ms m number n → ⊥
unknown_number (Digits minus token) unknown is = unknown
unknown_number (Called name) unknown is = no_value unknown is

-- the number of a bound that is the name of a named number of its type
named_is : {ms : List ModuleTerm} {m w : ℕ} {of : TypeTerm} {name : Token} {said : NumberTerm} {n : ℤ} →
    HasNamedNumber ms m of name w said → IsBound ms m of (Called name) n → IsNumber ms w said n
named_is {ms = ms} {w = w} {said = said} {n = n} has (named_number {w = v} {number = own} its h) =
    at_number (λ a b. IsNumber ms a b n) w v said own (one_named has its) h
named_is {w = w} {said = said} has (bound_value unless h) =
    absurd (unless (record { written_in = w; number = said; has = has }))

pub bound_named : (ms : List ModuleTerm) (m w : ℕ) (of : TypeTerm) (name : Token) (said : NumberTerm)
    (told : NumberFound) → HasNamedNumber ms m of name w said → FindsNumber ms w said told →
    FindsBound ms m of (Called name) (known_answer told)
bound_named ms m w of name said (answer.Number n) has is = named_number has is
bound_named ms m w of name said answer.NotNumber has is = (
  λ unknown. unknown.0 (record { written_in = w; number = said; has = has }),
  λ n bound. is.1 n (named_is has bound),
)
bound_named ms m w of name said answer.Unknown has is = (
  λ unknown. unknown.0 (record { written_in = w; number = said; has = has }),
  λ n bound. unknown_number said is (named_is has bound),
)

-- a bound that is a name, but of no named number of its type
pub bound_unnamed : (ms : List ModuleTerm) (m : ℕ) (of : TypeTerm) (name : Token) (told : NumberFound) →
    ((w : ℕ) (said : NumberTerm) → HasNamedNumber ms m of name w said → ⊥) → FindsNumber ms m (Called name) told →
    FindsBound ms m of (Called name) told
bound_unnamed ms m of name (answer.Number n) unless is =
    bound_value (λ names. unless names.written_in names.number names.has) is
bound_unnamed ms m of name answer.NotNumber unless is = (
  λ unknown. is.0 unknown.1,
  λ n bound. is.1 n (value_of bound),
)
  where
    value_of : {n : ℤ} → IsBound ms m of (Called name) n → IsNumber ms m (Called name) n
    value_of (named_number has h) = absurd (unless _ _ has)
    value_of (bound_value other h) = h
bound_unnamed ms m of name answer.Unknown unless is =
    (λ names. unless names.written_in names.number names.has, is)

pub bound_of_digits : (ms : List ModuleTerm) (m : ℕ) (of : TypeTerm) (minus : Bool) (token : Token)
    (told : NumberFound) → FindsNumber ms m (Digits minus token) told → FindsBound ms m of (Digits minus token) told
bound_of_digits ms m of minus token (answer.Number n) is = bound_digits is
bound_of_digits ms m of minus token answer.NotNumber is = (tt, λ n bound. is.1 n (digits_of bound))
  where
    digits_of : {n : ℤ} → IsBound ms m of (Digits minus token) n → IsNumber ms m (Digits minus token) n
    digits_of (bound_digits h) = h
bound_of_digits ms m of minus token answer.Unknown is = absurd is

-- ---- the named number that a type has under a name, by its base

written_type : (v w : ℕ) (of other : TypeTerm) → Written v of ≡ Written w other → of ≡ other
written_type v w of other h = cc

pub named_told : (ms : List ModuleTerm) (m w : ℕ) (of top : TypeTerm) (name : Token) (told : Option NumberTerm) →
    HasBase ms m of (Written w top) → told ≡ number_called name.text (named_numbers top) →
    TellsNamed ms m of name w told
named_told ms m w of top name None has called = λ v said named.
    let same = written_type w v top named.base (one_base has named.has) in
    none_some said (called ∙ ap (λ x. number_called name.text (named_numbers x)) same ∙ named.called)
named_told ms m w of top name (Some said) has called = record { base = top; has = has; called = sym called }

-- the same by the assignment whose type the base is beneath its tags
pub held_named : (ms : List ModuleTerm) (m w number : ℕ) (of top : TypeTerm) (name : Token) (told : Option NumberTerm) →
    HasBase ms m of (Written w top) → IsHeldBy ms w top (Some number) → ((v : ℕ) (its : TypeTerm) →
    IsTypeOf ms number v its → told ≡ number_called name.text (named_numbers (beneath_tags its))) →
    TellsNamed ms m of name w told
held_named ms m w number of top name told has held called =
    named_told ms m w of top name told has
    (called w held.0 held.1 ∙ ap (λ x. number_called name.text (named_numbers x)) held.2)

not_standing : (w : ℕ) (of : TypeTerm) (syntax : TypeSyntax) → Standing syntax ≡ Written w of → ⊥
not_standing w of syntax h = absurd (cc)

pub standing_unnamed : (ms : List ModuleTerm) (m : ℕ) (of : TypeTerm) (name : Token) (syntax : TypeSyntax) →
    HasBase ms m of (Standing syntax) → (w : ℕ) (said : NumberTerm) → HasNamedNumber ms m of name w said → ⊥
standing_unnamed ms m of name syntax has w said named =
    not_standing w named.base syntax (one_base has named.has)

-- ---- tags

-- a tag has the number that is found
pub tag_number : (ms : List ModuleTerm) (m : ℕ) (text : TagTerm) (n : ℤ) (tag : Tag) → IsNumber ms m text.number n →
    IsTag ms m text tag → n ≡ pos tag.number
tag_number ms m text n tag found is = one_number found is.number
