-- TypeFaults: what is wrong in a type, wherever it is assigned: of a type itself, and of those in its text
-- (docs/PROFILE.md, section 11).
use Rattle.std.specs.Prelude.{◌≡◌, ◌≢◌, ◌≤◌, ◌<◌, ℕ, ℤ, List, false, Option, None, Some}
use Rattle.token_grammar.specs.declared.token.Token.{Token}
use Rattle.term_values.specs.declared.tag.Tag.{Tag}
use Rattle.asn1_names.specs.declared.refusal.UnsupportedKind.TheVariants.{TypeWord, TagNumber, WideNumber}
use Rattle.asn1_names.specs.declared.refusal.UnsupportedKind.TheVariants.{MisplacedConstraint}
use Rattle.asn1_names.specs.ModuleTerms.{NumberTerm, RangeTerm, LimitTerm, TagTerm, PresenceTerm, PlainTerm}
use Rattle.asn1_names.specs.ModuleTerms.{TypeTerm, MemberTerms, ModuleTerm}
use Rattle.asn1_names.specs.ModuleTerms.PlainTerm.{OneWord, IntegerTerm, EnumeratedTerm, BitStringTerm}
use Rattle.asn1_names.specs.ModuleTerms.PlainTerm.{OctetStringTerm, IdentifierTerm, AnyTerm}
use Rattle.asn1_names.specs.ModuleTerms.TypeTerm.{Under, Structure, Repeated, Alternatives, Plain, Reference}
use Rattle.asn1_names.specs.Constraining.{limit_ranges}
use Rattle.asn1_names.specs.Containment.{IsMember, Within}
use Rattle.asn1_names.specs.FirstModuleFault.{FaultKind}
use Rattle.asn1_names.specs.FirstModuleFault.FaultKind.{TypeUnknown, ModuleUnknown, NotSupported, TagsAmbiguous}
use Rattle.asn1_names.specs.ModuleFaults.{IsKnown, IsKnownBound, IsOtherType}
use Rattle.asn1_names.specs.NameMeaning.{module_meaning, reference_meaning}
use Rattle.asn1_names.specs.NameMeaning.ModuleMeaning.{NoModule}
use Rattle.asn1_names.specs.NodeCount.{IsNoType, HasNodes}
use Rattle.asn1_names.specs.NumbersFound.{IsUnknown, IsUnknownBound}
use Rattle.asn1_names.specs.Occurrences.{bound_or_word, first_word, number_token}
use Rattle.asn1_names.specs.TagClashes.{IsAmbiguous}
use Rattle.asn1_names.specs.TypeBase.{Base, HasBase, has_place}
use Rattle.asn1_names.specs.TypeWords.{one_word_type}
use Rattle.asn1_names.specs.WholeNumbers.{IsNumber, IsBound, IsTag}
use Rattle.asn1_resolve.specs.FaultSets.{AnyOf, Either, NoFaults, OneFault}

-- of the name of a type: `Module.name`, or the name alone
abbrev pub NameFaults : List ModuleTerm → ℕ → Option Token → Token → ℕ → FaultKind → Type 0
NameFaults ms m None name =
    Either (OneFault (IsNoType (reference_meaning ms m None name) × (¬ IsOtherType ms m name)) name.at TypeUnknown)
    (OneFault (IsOtherType ms m name) name.at (NotSupported TypeWord))
NameFaults ms m (Some of) name = Either (OneFault (module_meaning ms of.text ≡ NoModule) of.at ModuleUnknown)
    (OneFault ((module_meaning ms of.text ≢ NoModule) × IsNoType (reference_meaning ms m (Some of) name)) name.at
    TypeUnknown)

-- of a named number, an item or a named bit
abbrev pub NumberFaults : List ModuleTerm → ℕ → NumberTerm → ℕ → FaultKind → Type 0
NumberFaults ms m number = Either (OneFault (IsUnknown ms m number) (number_token number).at TypeUnknown)
    (OneFault (IsKnown ms m number × ((n : ℤ) → ¬ IsNumber ms m number n)) (number_token number).at
    (NotSupported WideNumber))

-- of a tag
abbrev pub TagFaults : List ModuleTerm → ℕ → TagTerm → ℕ → FaultKind → Type 0
TagFaults ms m tag = Either (OneFault (IsUnknown ms m tag.number) (number_token tag.number).at TypeUnknown)
    (OneFault (IsKnown ms m tag.number × ((own : Tag) → ¬ IsTag ms m tag own)) (number_token tag.number).at
    (NotSupported TagNumber))

-- of a bound of a type
abbrev pub BoundFaults : List ModuleTerm → ℕ → TypeTerm → NumberTerm → ℕ → FaultKind → Type 0
BoundFaults ms m of bound = Either (OneFault (IsUnknownBound ms m of bound) (number_token bound).at TypeUnknown)
    (OneFault (IsKnownBound ms m of bound × ((n : ℤ) → ¬ IsBound ms m of bound n)) (number_token bound).at
    (NotSupported WideNumber))

abbrev pub UpperFaults : List ModuleTerm → ℕ → TypeTerm → Option NumberTerm → ℕ → FaultKind → Type 0
UpperFaults ms m of None = NoFaults
UpperFaults ms m of (Some bound) = BoundFaults ms m of bound

-- of a range
abbrev pub RangeFaults : List ModuleTerm → ℕ → TypeTerm → RangeTerm → ℕ → FaultKind → Type 0
RangeFaults ms m of range = Either (BoundFaults ms m of range.lower) (UpperFaults ms m of range.upper)

-- the type has no place for the constraint
abbrev pub IsMisplaced : List ModuleTerm → ℕ → TypeTerm → LimitTerm → Type 0
IsMisplaced ms m of limit = (base : Base) × HasBase ms m of base × (has_place base limit ≡ false)

-- of a constraint behind a type
abbrev pub LimitFaults : List ModuleTerm → ℕ → TypeTerm → LimitTerm → ℕ → FaultKind → Type 0
LimitFaults ms m of limit = Either (AnyOf (RangeFaults ms m of) (limit_ranges limit))
    (OneFault (IsMisplaced ms m of limit) (bound_or_word (limit_ranges limit) (first_word of)).at
    (NotSupported MisplacedConstraint))

-- of the sizes before OF, which always have a place
abbrev pub SizeFaults : List ModuleTerm → ℕ → TypeTerm → Option (List RangeTerm) → ℕ → FaultKind → Type 0
SizeFaults ms m of None = NoFaults
SizeFaults ms m of (Some ranges) = AnyOf (RangeFaults ms m of) ranges

-- of the constraints of a type
abbrev pub ConstraintFaults : List ModuleTerm → ℕ → TypeTerm → ℕ → FaultKind → Type 0
ConstraintFaults ms m (Under tag mode of) = NoFaults
ConstraintFaults ms m (Structure word members limits) =
    AnyOf (LimitFaults ms m (Structure word members limits)) limits
ConstraintFaults ms m (Repeated word size of) = SizeFaults ms m (Repeated word size of) size
ConstraintFaults ms m (Alternatives word members limits) =
    AnyOf (LimitFaults ms m (Alternatives word members limits)) limits
ConstraintFaults ms m (Plain word plain limits) = AnyOf (LimitFaults ms m (Plain word plain limits)) limits
ConstraintFaults ms m (Reference module_name name limits) =
    AnyOf (LimitFaults ms m (Reference module_name name limits)) limits

-- of a type that holds no other: of its word, or of its named numbers or bits
abbrev pub PlainFaults : List ModuleTerm → ℕ → Token → PlainTerm → ℕ → FaultKind → Type 0
PlainFaults ms m word OneWord = OneFault (one_word_type word.text ≡ None) word.at (NotSupported TypeWord)
PlainFaults ms m word (IntegerTerm numbers) = AnyOf (λ x. NumberFaults ms m x.number) numbers
PlainFaults ms m word (EnumeratedTerm items) = AnyOf (λ x. NumberFaults ms m x.number) items
PlainFaults ms m word (BitStringTerm bits) = AnyOf (λ x. NumberFaults ms m x.number) bits
PlainFaults ms m word OctetStringTerm = NoFaults
PlainFaults ms m word IdentifierTerm = NoFaults
PlainFaults ms m word AnyTerm = NoFaults

-- of a tag, a name, or a type that holds no other
abbrev pub HeadFaults : List ModuleTerm → ℕ → TypeTerm → ℕ → FaultKind → Type 0
HeadFaults ms m (Under tag mode of) = TagFaults ms m tag
HeadFaults ms m (Structure word _ limits) = NoFaults
HeadFaults ms m (Repeated word size of) = NoFaults
HeadFaults ms m (Alternatives word _ limits) = NoFaults
HeadFaults ms m (Plain word plain limits) = PlainFaults ms m word plain
HeadFaults ms m (Reference module_name name limits) = NameFaults ms m module_name name

-- of the tags of alternatives or components, where something is so
abbrev pub TagsFaults : Type 0 → List ModuleTerm → ℕ → TypeTerm → ℕ → FaultKind → Type 0
TagsFaults Told ms m of =
    OneFault (Told × ((word : Token) × IsAmbiguous ms m of word)) (first_word of).at TagsAmbiguous

-- of the type itself; of tags where they are told
abbrev pub OwnFaults : Type 0 → List ModuleTerm → ℕ → TypeTerm → ℕ → FaultKind → Type 0
OwnFaults Told ms m of = Either (Either (TagsFaults Told ms m of) (ConstraintFaults ms m of)) (HeadFaults ms m of)

-- of the type and of those in its text
abbrev pub TypeFaults : Type 0 → List ModuleTerm → ℕ → TypeTerm → ℕ → FaultKind → Type 0
TypeFaults Told ms m of token kind = (inner : TypeTerm) × Within inner of × OwnFaults Told ms m inner token kind

-- of components or alternatives
abbrev pub MemberFaults : Type 0 → List ModuleTerm → ℕ → MemberTerms → ℕ → FaultKind → Type 0
MemberFaults Told ms m members token kind = (k : ℕ) × (of : TypeTerm) × (presence : PresenceTerm)
    × IsMember members k of presence × TypeFaults Told ms m of token kind

-- the type has at most 10,000 nodes
abbrev pub IsFew : List ModuleTerm → ℕ → TypeTerm → Type 0
IsFew ms m of = (n : ℕ) × HasNodes ms m of n × (n ≤ 10000)

-- the type has more
abbrev pub IsLarge : List ModuleTerm → ℕ → TypeTerm → Type 0
IsLarge ms m of = (n : ℕ) × HasNodes ms m of n × (10000 < n)
