-- IdentifierLaws: when what is left of a type beneath its names and tags is OBJECT IDENTIFIER.
use Rattle.std.proofs.Common.{◌≡◌, ◌∙◌, ℕ, List, Bool, true, false, Option, None, Some, refl, sym, ap}
use Rattle.std.specs.Prelude.{◌↔◌}
use Rattle.std.specs.Borrow.{Bor}
use Rattle.std.proofs.Math.Path.{subst}
use Rattle.std.proofs.lemmas.Bool.{false≢true}
use Rattle.std.proofs.lemmas.Option.{none-some}
use Rattle.token_grammar.specs.declared.token.Token.{Token}
use Rattle.asn1_syntax.specs.declared.plain_type.PlainType.{PlainType}
use Rattle.asn1_syntax.specs.declared.plain_type.PlainType.TheVariants as plain
use Rattle.asn1_syntax.specs.declared.type_text.StructureText.TheVariants.{Components', ListOf'}
use Rattle.asn1_syntax.specs.declared.type_text.TypeText.{TypeText}
use Rattle.asn1_syntax.specs.declared.type_text.TypeText.TheVariants.{Tagged', Structured, Choice', Plain as APlain}
use Rattle.asn1_names.specs.declared.numbers.Base.{Base as CodeBase}
use Rattle.asn1_names.specs.declared.numbers.Base.TheVariants as code
use Rattle.asn1_names.specs.ModuleTerms.{LimitTerm, ModuleTerm, PlainTerm, TypeTerm}
use Rattle.asn1_names.specs.ModuleTerms.PlainTerm.{OneWord, IntegerTerm, EnumeratedTerm, BitStringTerm}
use Rattle.asn1_names.specs.ModuleTerms.PlainTerm.{OctetStringTerm, IdentifierTerm, AnyTerm}
use Rattle.asn1_names.specs.ModuleTerms.TypeTerm.{Under, Structure, Repeated, Alternatives, Plain, Reference}
use Rattle.asn1_names.specs.AssignmentNumbers.{numbered_at}
use Rattle.asn1_names.specs.CodeMeanings.{IsTypeOf}
use Rattle.asn1_names.specs.NumbersFound.{FindsBase}
use Rattle.asn1_names.specs.TermViews.{limit_terms, plain_term, type_term}
use Rattle.asn1_names.specs.TypeBase.{HasBase}
use Rattle.asn1_names.specs.TypeBase.Base.{Written}
use Rattle.asn1_names.proofs.OneNumber.{one_base}
use Rattle.asn1_numbers.proofs.LeadingLaws.{same_type}
use Rattle.gdmo_first_names.specs.IdentifierTypes.{IsIdentifierBase, is_identifier_text, is_identifier_word}
use Rattle.gdmo_names.specs.FirstNames.{IsIdentifierType}

abbrev is_identifier_plain : PlainTerm → Bool
is_identifier_plain IdentifierTerm = true
is_identifier_plain _ = false

abbrev is_identifier_term : TypeTerm → Bool
is_identifier_term (Plain word of limits) = is_identifier_plain of
is_identifier_term _ = false

named_not : (of : PlainType) (limits : List LimitTerm) (name : Token) (member : Option Token) →
    false ≡ is_identifier_term (elim member as (λ _. TypeTerm) [
      | None ↦ Reference None name limits
      | Some own ↦ Reference (Some name) own limits
    ])
named_not of limits name None = refl
named_not of limits name (Some own) = refl

word_is : (of : PlainType) (limits : List LimitTerm) → is_identifier_word of ≡ is_identifier_term (plain_term of limits)
word_is (plain.Simple word) limits = refl
word_is (plain.Integer x) limits = refl
word_is (plain.Enumerated x) limits = refl
word_is (plain.BitString x) limits = refl
word_is (plain.OctetString word) limits = refl
word_is (plain.ObjectIdentifier word) limits = refl
word_is (plain.Any x) limits = refl
word_is (plain.Named x) limits = named_not (plain.Named x) limits x.name x.member

text_is : (of : TypeText) → is_identifier_text of ≡ is_identifier_term (type_term of)
text_is (Tagged' tag mode place of) = refl
text_is (Structured word (Components' components constraints)) = refl
text_is (Structured word (ListOf' size place of)) = refl
text_is (Choice' word shape row constraints) = refl
text_is (APlain of constraints) = word_is of (limit_terms constraints)

abbrev IsStated : TypeTerm → Type 0
IsStated of = (word : Token) × (limits : List LimitTerm) × (of ≡ Plain word IdentifierTerm limits)

stated_plain : (word : Token) (of : PlainTerm) (limits : List LimitTerm) → is_identifier_plain of ≡ true →
    IsStated (Plain word of limits)
stated_plain word OneWord limits h = absurd (false≢true h)
stated_plain word (IntegerTerm numbers) limits h = absurd (false≢true h)
stated_plain word (EnumeratedTerm items) limits h = absurd (false≢true h)
stated_plain word (BitStringTerm bits) limits h = absurd (false≢true h)
stated_plain word OctetStringTerm limits h = absurd (false≢true h)
stated_plain word IdentifierTerm limits h = (word, limits, refl)
stated_plain word AnyTerm limits h = absurd (false≢true h)

stated : (of : TypeTerm) → is_identifier_term of ≡ true → IsStated of
stated (Under tag mode of) h = absurd (false≢true h)
stated (Structure word _ limits) h = absurd (false≢true h)
stated (Repeated word size of) h = absurd (false≢true h)
stated (Alternatives word _ limits) h = absurd (false≢true h)
stated (Plain word of limits) h = stated_plain word of limits h
stated (Reference module_name name limits) h = absurd (false≢true h)

same_written : (home written_in : ℕ) (one other : TypeTerm) → Written home one ≡ Written written_in other → one ≡ other
same_written home written_in one other h = cc

pub base_told : (ms : List ModuleTerm) (m : ℕ) (of : TypeTerm) (base : CodeBase) → FindsBase ms m of base →
    IsIdentifierBase base ↔ IsIdentifierType ms m of
base_told ms m of (code.Written home top holder) finds = (
  λ h. (let is = stated (type_term top.now) (sym (text_is top.now) ∙ h) in record {
    written_in = home;
    word = is.0;
    limits = is.1;
    base = subst (λ t. HasBase ms m of (Written home t)) is.2 finds.0;
  }),
  λ has. text_is top.now ∙ ap is_identifier_term (same_written home has.written_in (type_term top.now)
      (Plain has.word IdentifierTerm has.limits) (one_base finds.0 has.base)),
)
base_told ms m of (code.Standing standard) finds = (
  λ h. absurd h,
  λ has. absurd (let same = one_base finds has.base in cc),
)
base_told ms m of code.Nothing finds = (λ h. absurd h, λ has. absurd (finds _ has.base))

pub type_told : (ms : List ModuleTerm) (k home m : ℕ) (own of : TypeTerm) (base : CodeBase) (b : Bool) →
    IsTypeOf ms k home own → FindsBase ms home own base → (b ≡ true) ↔ IsIdentifierBase base → IsTypeOf ms k m of →
    (b ≡ true) ↔ IsIdentifierType ms m of
type_told ms k home m own of base b is finds tells type =
    let same = same_type ms k home m own of is type in
    let told = base_told ms home own base finds in
    subst (λ v. (b ≡ true) ↔ IsIdentifierType ms v of) same.0
    (subst (λ t. (b ≡ true) ↔ IsIdentifierType ms home t) same.1
    ((λ h. told.0 (tells.0 h)), (λ h. tells.1 (told.1 h))))

pub absent_type : {P : Type 0} (ms : List ModuleTerm) (k m : ℕ) (of : TypeTerm) → numbered_at ms k ≡ None →
    IsTypeOf ms k m of → P
absent_type ms k m of absent type = absurd (none-some type.numbered (sym absent ∙ type.at))

pub written_is : (base : CodeBase) (home : ℕ) (top : Bor TypeText) (holder : Option ℕ) (b : Bool) →
    base ≡ code.Written home top holder → b ≡ is_identifier_text top.now → (b ≡ true) ↔ IsIdentifierBase base
written_is base home top holder b is told = subst (λ x. (b ≡ true) ↔ IsIdentifierBase x) (sym is)
    ((λ h. sym told ∙ h), (λ h. told ∙ h))

pub standing_is : (base : CodeBase) (standard : _) → base ≡ code.Standing standard →
    (false ≡ true) ↔ IsIdentifierBase base
standing_is base standard is = subst (λ x. (false ≡ true) ↔ IsIdentifierBase x) (sym is)
    ((λ h. absurd (false≢true h)), (λ h. absurd h))

pub nothing_is : (base : CodeBase) → base ≡ code.Nothing → (false ≡ true) ↔ IsIdentifierBase base
nothing_is base is = subst (λ x. (false ≡ true) ↔ IsIdentifierBase x) (sym is)
    ((λ h. absurd (false≢true h)), (λ h. absurd h))
