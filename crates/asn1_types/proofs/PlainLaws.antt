-- PlainLaws: what is built of a type that holds no other is what it denotes (X.680, sections 18 to 24, 31 and 41).
use Rattle.std.proofs.Common.{◌≡◌, ℕ, List, [], map, sym}
use Rattle.std.proofs.Math.Path.{subst}
use Rattle.token_grammar.specs.declared.token.Token.{Token}
use Rattle.term_values.specs.Syntaxes.{Named, Bounds, TypeSyntax}
use Rattle.term_values.specs.Syntaxes.TypeSyntax.{Any, BitString, Enumerated, Integer, ObjectIdentifier, OctetString}
use Rattle.asn1_syntax.specs.declared.plain_type.AnyType.{AnyType}
use Rattle.asn1_syntax.specs.declared.plain_type.BitStringType.{BitStringType}
use Rattle.asn1_syntax.specs.declared.plain_type.EnumeratedType.{EnumeratedType}
use Rattle.asn1_syntax.specs.declared.plain_type.IntegerType.{IntegerType}
use Rattle.asn1_syntax.specs.declared.plain_type.PlainType.{PlainType}
use Rattle.asn1_syntax.specs.declared.plain_type.PlainType.TheVariants as plain
use Rattle.asn1_names.specs.DenotedSyntax.{AreNamed}
use Rattle.asn1_names.specs.DenotedSyntax.PlainDenotes.{any, bit_string, enumerated, integer, object_identifier}
use Rattle.asn1_names.specs.DenotedSyntax.PlainDenotes.{octet_string, one_word}
use Rattle.asn1_names.specs.ModuleTerms.{LimitTerm, ModuleTerm}
use Rattle.asn1_names.specs.SaidNumbers.{AllSayNumbers}
use Rattle.asn1_names.specs.TermViews.{bit_term, integer_term, listed_terms, plain_term}
use Rattle.asn1_types.specs.BuiltSyntaxes.{IsWordSyntax, PlainIsDenoted}

abbrev ForLimits : List ModuleTerm → ℕ → PlainType → TypeSyntax → Type 0
ForLimits ms m p syntax = (limits : List LimitTerm) → PlainIsDenoted ms m (plain_term p limits) syntax

-- the syntax of a type that is written so
as_written : (ms : List ModuleTerm) (m : ℕ) (p q : PlainType) (syntax : TypeSyntax) → p ≡ q → ForLimits ms m q syntax →
    ForLimits ms m p syntax
as_written ms m p q syntax is told = subst (λ x. ForLimits ms m x syntax) (sym is) told

pub word_denoted : (ms : List ModuleTerm) (m : ℕ) (p : PlainType) (word : Token) (syntax : TypeSyntax) →
    p ≡ plain.Simple word → IsWordSyntax word.text syntax → ForLimits ms m p syntax
word_denoted ms m p word syntax is told =
    as_written ms m p (plain.Simple word) syntax is (λ limits says. one_word (told says))

pub integer_denoted : (ms : List ModuleTerm) (m : ℕ) (p : PlainType) (x : IntegerType) (names : Named) (ranges :
    Bounds) →
    p ≡ plain.Integer x → ranges ≡ [] →
    (AllSayNumbers ms m (listed_terms integer_term x.numbers) →
    AreNamed ms m (listed_terms integer_term x.numbers) names) → ForLimits ms m p (Integer names ranges)
integer_denoted ms m p x names ranges is none told =
    subst (λ r. ForLimits ms m p (Integer names r)) (sym none)
    (as_written ms m p (plain.Integer x) (Integer names []) is (λ limits says. integer (told says)))

pub enumerated_denoted : (ms : List ModuleTerm) (m : ℕ) (p : PlainType) (x : EnumeratedType) (names : Named) →
    p ≡ plain.Enumerated x →
    (AllSayNumbers ms m (map integer_term x.items.items) → AreNamed ms m (map integer_term x.items.items) names) →
    ForLimits ms m p (Enumerated names)
enumerated_denoted ms m p x names is told =
    as_written ms m p (plain.Enumerated x) (Enumerated names) is (λ limits says. enumerated (told says))

pub bits_denoted : (ms : List ModuleTerm) (m : ℕ) (p : PlainType) (x : BitStringType) (names : Named) (sizes : Bounds) →
    p ≡ plain.BitString x → sizes ≡ [] →
    (AllSayNumbers ms m (listed_terms bit_term x.bits) → AreNamed ms m (listed_terms bit_term x.bits) names) →
    ForLimits ms m p (BitString names sizes)
bits_denoted ms m p x names sizes is none told =
    subst (λ r. ForLimits ms m p (BitString names r)) (sym none)
    (as_written ms m p (plain.BitString x) (BitString names []) is (λ limits says. bit_string (told says)))

pub octets_denoted : (ms : List ModuleTerm) (m : ℕ) (p : PlainType) (word : Token) (sizes : Bounds) →
    p ≡ plain.OctetString word → sizes ≡ [] → ForLimits ms m p (OctetString sizes)
octets_denoted ms m p word sizes is none =
    subst (λ r. ForLimits ms m p (OctetString r)) (sym none)
    (as_written ms m p (plain.OctetString word) (OctetString []) is (λ limits says. octet_string))

pub identifier_denoted : (ms : List ModuleTerm) (m : ℕ) (p : PlainType) (word : Token) →
    p ≡ plain.ObjectIdentifier word → ForLimits ms m p ObjectIdentifier
identifier_denoted ms m p word is =
    as_written ms m p (plain.ObjectIdentifier word) ObjectIdentifier is (λ limits says. object_identifier)

pub any_denoted : (ms : List ModuleTerm) (m : ℕ) (p : PlainType) (x : AnyType) → p ≡ plain.Any x → ForLimits ms m p Any
any_denoted ms m p x is = as_written ms m p (plain.Any x) Any is (λ limits says. any)
