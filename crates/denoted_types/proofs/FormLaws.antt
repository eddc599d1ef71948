-- FormLaws: in modules without a fault a type of each form denotes a syntax where those that stand in it do (X.680,
-- sections 17 to 51).
use Rattle.std.proofs.Common.{◌≡◌, ℕ, List, [], ◌∷◌, Bool, true, false, Option, None, Some, codes, Contains}
use Rattle.std.proofs.Common.{refl, sym, ap, zero, suc, ◌<◌, length, get_or, true≢false, arith}
use Rattle.token_grammar.specs.declared.token.Token.{Token}
use Rattle.token_grammar.specs.TokenTests.{is_word_of}
use Rattle.term_values.specs.Syntaxes.{TypeSyntax, TypeParts}
use Rattle.term_values.specs.Syntaxes.TypeSyntax.{SequenceOf, SetOf}
use Rattle.asn1_names.specs.ModuleTerms.{RangeTerm, LimitTerm, TagTerm, TypeTerm, MemberTerms, ModuleTerm}
use Rattle.asn1_names.specs.ModuleTerms.LimitTerm.{SizeLimit, ValueLimit}
use Rattle.asn1_names.specs.ModuleTerms.TypeTerm.{Under, Structure, Repeated, Alternatives}
use Rattle.asn1_names.specs.Constraining.{is_size_limit}
use Rattle.asn1_names.specs.DenotedSyntax.{Denotes, MembersDenote, size_limits}
use Rattle.asn1_names.specs.DenotedSyntax.Denotes.{tagged, sequence, set, choice, sequence_of, set_of}
use Rattle.asn1_names.specs.FirstModuleFault.{AreFaultless}
use Rattle.asn1_names.specs.Occurrences.{Stands, IsLimitOf}
use Rattle.asn1_names.specs.Occurrences.IsLimitOf.{structure, list_size, alternatives}
use Rattle.asn1_names.specs.TypeBase.{has_place}
use Rattle.asn1_names.specs.TypeBase.Base.{Written}
use Rattle.asn1_names.specs.TypeBase.HasBase.{itself}
use Rattle.asn1_names.proofs.FaultlessLaws.{faultless_place, says_tag}
use Rattle.denoted_types.specs.DenotedTypes.{NotNone}
use Rattle.denoted_types.proofs.NarrowLaws.{in_front, some_constrained}
use Rattle.denoted_types.proofs.SaidLaws.{says_ranges}

-- a type, or components, denote a syntax
abbrev pub SomeDenoted : List ModuleTerm → ℕ → TypeTerm → Type 0
SomeDenoted ms m of = NotNone (λ (syntax : TypeSyntax). Denotes ms m of syntax)

abbrev pub SomeParts : List ModuleTerm → ℕ → MemberTerms → Type 0
SomeParts ms m members = NotNone (λ (parts : TypeParts). MembersDenote ms m members parts)

-- ---- a tag

pub tagged_denotes : {ms : List ModuleTerm} {document m : ℕ} {tag : TagTerm} {mode : Option Token} {of : TypeTerm} →
    AreFaultless ms → Stands ms document m (Under tag mode of) → SomeDenoted ms m of →
    SomeDenoted ms m (Under tag mode of)
tagged_denotes sound stands inner = λ none.
    says_tag sound stands (λ own is. inner (λ syntax denotes. none _ (tagged is denotes)))

-- ---- SEQUENCE, SET and CHOICE have no constraints

structure_by : {ms : List ModuleTerm} {m : ℕ} {word : Token} {members : MemberTerms} (b : Bool) →
    is_word_of (codes "SET") word ≡ b → SomeParts ms m members → SomeDenoted ms m (Structure word members [])
structure_by true is inner = λ none. inner (λ parts denote. none _ (set is denote))
structure_by false is inner = λ none. inner (λ parts denote. none _ (sequence is denote))

no_limit : (m : ℕ) (word : Token) (members : MemberTerms) (limits : List LimitTerm) (limit : LimitTerm) →
    has_place (Written m (Structure word members limits)) limit ≡ true → ⊥
no_limit m word parts limits (SizeLimit ranges) h = true≢false (sym h)
no_limit m word parts limits (ValueLimit ranges) h = true≢false (sym h)

pub structure_denotes : {ms : List ModuleTerm} {document m : ℕ} {word : Token} {members : MemberTerms}
    (limits : List LimitTerm) → AreFaultless ms → Stands ms document m (Structure word members limits) →
    SomeParts ms m members → SomeDenoted ms m (Structure word members limits)
structure_denotes {word = word} [] sound stands inner = structure_by (is_word_of (codes "SET") word) refl inner
structure_denotes {m = m} {word = word} {members = members} (x ∷ xs) sound stands inner =
    absurd (no_limit m word members (x ∷ xs) x
    (faultless_place sound stands (structure (in_front x xs)) (itself refl)))

no_choice_limit : (m : ℕ) (word : Token) (members : MemberTerms) (limits : List LimitTerm) (limit : LimitTerm) →
    has_place (Written m (Alternatives word members limits)) limit ≡ true → ⊥
no_choice_limit m word parts limits (SizeLimit ranges) h = true≢false (sym h)
no_choice_limit m word parts limits (ValueLimit ranges) h = true≢false (sym h)

pub choice_denotes : {ms : List ModuleTerm} {document m : ℕ} {word : Token} {members : MemberTerms}
    (limits : List LimitTerm) → AreFaultless ms → Stands ms document m (Alternatives word members limits) →
    SomeParts ms m members → SomeDenoted ms m (Alternatives word members limits)
choice_denotes [] sound stands inner = λ none. inner (λ parts denote. none _ (choice denote))
choice_denotes {m = m} {word = word} {members = members} (x ∷ xs) sound stands inner =
    absurd (no_choice_limit m word members (x ∷ xs) x
    (faultless_place sound stands (alternatives (in_front x xs)) (itself refl)))

-- ---- SEQUENCE OF and SET OF

size_is : (size : Option (List RangeTerm)) (word : Token) (of : TypeTerm) (limit : LimitTerm) →
    Contains (size_limits size) limit → (is_size_limit limit ≡ true) × IsLimitOf limit (Repeated word size of)
size_is None word of limit there = absurd (omega (arith, there.1))
size_is (Some ranges) word of limit there =
    let same = only_one (SizeLimit ranges) limit there.0 there.1 there.2 in
    (sym (ap is_size_limit same), list_size (sym same))
  where
    only_one : (x y : LimitTerm) (k : ℕ) → k < length (x ∷ []) → get_or (x ∷ []) k y ≡ y → x ≡ y
    only_one x y zero within is = is
    only_one x y (suc k) within is = absurd (omega arith)

repeated_by : {ms : List ModuleTerm} {document m : ℕ} {word : Token} {size : Option (List RangeTerm)}
    {of : TypeTerm} (b : Bool) → is_word_of (codes "SET") word ≡ b → AreFaultless ms →
    Stands ms document m (Repeated word size of) → SomeDenoted ms m of → SomeDenoted ms m (Repeated word size of)
repeated_by {word = word} {size = size} {of = of} true is sound stands inner = λ none. inner (λ element denotes.
    some_constrained (size_limits size) (SetOf element []) (λ limit there. (size_is size word of limit there).0)
    (λ limit there. says_ranges limit sound stands (size_is size word of limit there).1)
    (λ syntax constrains. none syntax (set_of is denotes constrains)))
repeated_by {word = word} {size = size} {of = of} false is sound stands inner = λ none. inner (λ element denotes.
    some_constrained (size_limits size) (SequenceOf element []) (λ limit there. (size_is size word of limit there).0)
    (λ limit there. says_ranges limit sound stands (size_is size word of limit there).1)
    (λ syntax constrains. none syntax (sequence_of is denotes constrains)))

pub repeated_denotes : {ms : List ModuleTerm} {document m : ℕ} {word : Token} {size : Option (List RangeTerm)}
    {of : TypeTerm} → AreFaultless ms → Stands ms document m (Repeated word size of) → SomeDenoted ms m of →
    SomeDenoted ms m (Repeated word size of)
repeated_denotes {word = word} sound stands inner =
    repeated_by (is_word_of (codes "SET") word) refl sound stands inner
