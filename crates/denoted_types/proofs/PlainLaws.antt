-- PlainLaws: in modules without a fault a type that holds no other denotes a syntax (X.680, sections 17 to 24, 41 and
-- 46 to 51).
use Rattle.std.proofs.Common.{◌≡◌, ℕ, List, [], true, Option, None, Some, refl}
use Rattle.token_grammar.specs.declared.token.Token.{Token}
use Rattle.term_values.specs.Syntaxes.{TypeSyntax}
use Rattle.asn1_names.specs.declared.refusal.UnsupportedKind.TheVariants as unsupported
use Rattle.asn1_names.specs.ModuleTerms.{LimitTerm, PlainTerm, ModuleTerm}
use Rattle.asn1_names.specs.ModuleTerms.LimitTerm.{SizeLimit, ValueLimit}
use Rattle.asn1_names.specs.ModuleTerms.PlainTerm.{OneWord, IntegerTerm, EnumeratedTerm, BitStringTerm}
use Rattle.asn1_names.specs.ModuleTerms.PlainTerm.{OctetStringTerm, IdentifierTerm, AnyTerm}
use Rattle.asn1_names.specs.ModuleTerms.TypeTerm.{Plain}
use Rattle.asn1_names.specs.Constraining.{is_size_limit}
use Rattle.asn1_names.specs.Constraining.Constrains.{no_more}
use Rattle.asn1_names.specs.DenotedSyntax.{Denotes, PlainDenotes}
use Rattle.asn1_names.specs.DenotedSyntax.Denotes.{plain}
use Rattle.asn1_names.specs.DenotedSyntax.PlainDenotes.{one_word, integer, enumerated, bit_string, octet_string}
use Rattle.asn1_names.specs.DenotedSyntax.PlainDenotes.{object_identifier, any}
use Rattle.asn1_names.specs.FirstModuleFault.{AreFaultless}
use Rattle.asn1_names.specs.FirstModuleFault.FaultKind.{NotSupported}
use Rattle.asn1_names.specs.ModuleFaults.UnsupportedAt.{other_word}
use Rattle.asn1_names.specs.Narrowing.{can_narrow}
use Rattle.asn1_names.specs.Occurrences.{Stands}
use Rattle.asn1_names.specs.Occurrences.IsLimitOf.{plain as plain_limit}
use Rattle.asn1_names.specs.Occurrences.IsNumberOf.{named_number, item, named_bit}
use Rattle.asn1_names.specs.TypeBase.{has_place}
use Rattle.asn1_names.specs.TypeBase.Base.{Written}
use Rattle.asn1_names.specs.TypeBase.HasBase.{itself}
use Rattle.asn1_names.specs.TypeWords.{one_word_type}
use Rattle.asn1_names.proofs.BaseLaws.{denoted_place}
use Rattle.asn1_names.proofs.FaultlessLaws.{faultless_place}
use Rattle.denoted_types.proofs.FormLaws.{SomeDenoted}
use Rattle.denoted_types.specs.DenotedTypes.{NotNone}
use Rattle.denoted_types.proofs.NarrowLaws.{some_constrained}
use Rattle.denoted_types.proofs.SaidLaws.{says_names, says_ranges}

word_denotes : {ms : List ModuleTerm} {document m : ℕ} {word : Token} {limits : List LimitTerm}
    (found : Option TypeSyntax) → one_word_type word.text ≡ found → AreFaultless ms →
    Stands ms document m (Plain word OneWord limits) →
    NotNone (λ (syntax : TypeSyntax). PlainDenotes ms m word OneWord syntax)
word_denotes {document = document} {word = word} None is sound stands = λ none.
    sound (NotSupported unsupported.TypeWord) document word.at (other_word stands is refl)
word_denotes (Some syntax) is sound stands = λ none. none syntax (one_word is)

plain_unlimited : {ms : List ModuleTerm} {document m : ℕ} {word : Token} (of : PlainTerm) {limits : List LimitTerm} →
    AreFaultless ms → Stands ms document m (Plain word of limits) →
    NotNone (λ (syntax : TypeSyntax). PlainDenotes ms m word of syntax)
plain_unlimited {word = word} OneWord sound stands = word_denotes (one_word_type word.text) refl sound stands
plain_unlimited (IntegerTerm numbers) sound stands = λ none.
    says_names sound stands numbers (λ x there. named_number there refl) (λ names are. none _ (integer are))
plain_unlimited (EnumeratedTerm items) sound stands = λ none.
    says_names sound stands items (λ x there. item there refl) (λ names are. none _ (enumerated are))
plain_unlimited (BitStringTerm bits) sound stands = λ none.
    says_names sound stands bits (λ x there. named_bit there refl) (λ names are. none _ (bit_string are))
plain_unlimited OctetStringTerm sound stands = λ none. none _ octet_string
plain_unlimited IdentifierTerm sound stands = λ none. none _ object_identifier
plain_unlimited AnyTerm sound stands = λ none. none _ any

plain_place : {ms : List ModuleTerm} {m : ℕ} {word : Token} {of : PlainTerm} {syntax : TypeSyntax}
    (limits : List LimitTerm) → PlainDenotes ms m word of syntax → (limit : LimitTerm) →
    has_place (Written m (Plain word of limits)) limit ≡ true → can_narrow (is_size_limit limit) syntax ≡ true
plain_place {ms = ms} {m = m} {word = word} {of = of} {syntax = syntax} limits p (SizeLimit ranges) h =
    let denotes : Denotes ms m (Plain word of []) syntax = plain p no_more in
    denoted_place denotes (itself refl) (SizeLimit ranges) h
plain_place {ms = ms} {m = m} {word = word} {of = of} {syntax = syntax} limits p (ValueLimit ranges) h =
    let denotes : Denotes ms m (Plain word of []) syntax = plain p no_more in
    denoted_place denotes (itself refl) (ValueLimit ranges) h

pub plain_denotes : {ms : List ModuleTerm} {document m : ℕ} {word : Token} {of : PlainTerm}
    {limits : List LimitTerm} → AreFaultless ms → Stands ms document m (Plain word of limits) →
    SomeDenoted ms m (Plain word of limits)
plain_denotes {of = of} {limits = limits} sound stands = λ none. plain_unlimited of sound stands (λ unlimited p.
    some_constrained limits unlimited
    (λ limit there. plain_place limits p limit (faultless_place sound stands (plain_limit there) (itself refl)))
    (λ limit there. says_ranges limit sound stands (plain_limit there))
    (λ syntax constrains. none syntax (plain p constrains)))
