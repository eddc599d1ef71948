-- FaultlessLaws: in modules without faults each number, tag and bound is said, and each constraint has its place
-- (docs/PROFILE.md, section 11).
use Rattle.std.proofs.Common.{◌≡◌, ℕ, ℤ, List, Bool, true, false, refl}
use Rattle.term_values.specs.declared.tag.Tag.{Tag}
use Rattle.asn1_names.specs.declared.refusal.UnsupportedKind.TheVariants as unsupported
use Rattle.asn1_names.specs.ModuleTerms.{NumberTerm, LimitTerm, TagTerm, TypeTerm, ModuleTerm}
use Rattle.asn1_names.specs.ModuleTerms.NumberTerm.{Digits, Called}
use Rattle.asn1_names.specs.ModuleTerms.TypeTerm.{Under}
use Rattle.asn1_names.specs.Constraining.{limit_ranges}
use Rattle.asn1_names.specs.FirstModuleFault.{AreFaultless}
use Rattle.asn1_names.specs.FirstModuleFault.FaultKind.{TypeUnknown, NotSupported}
use Rattle.asn1_names.specs.ModuleFaults.{IsKnown, IsKnownBound}
use Rattle.asn1_names.specs.ModuleFaults.UnknownTypeAt.{tag_number, named_number, bound}
use Rattle.asn1_names.specs.ModuleFaults.UnsupportedAt.{tag_number as wide_tag, named_number as wide_number}
use Rattle.asn1_names.specs.ModuleFaults.UnsupportedAt.{bound as wide_bound, misplaced}
use Rattle.asn1_names.specs.Occurrences.{Stands, IsNumberOf, IsLimitOf, IsBoundOf, number_token, bound_or_word}
use Rattle.asn1_names.specs.Occurrences.{first_word}
use Rattle.asn1_names.specs.TypeBase.{Base, HasBase, has_place}
use Rattle.asn1_names.specs.WholeNumbers.{IsNumber, IsBound, IsTag}

known_tag : {ms : List ModuleTerm} {document m : ℕ} {tag : TagTerm} {mode : _} {of : TypeTerm} (number : NumberTerm) →
    AreFaultless ms → Stands ms document m (Under tag mode of) → tag.number ≡ number → IsKnown ms m number
known_tag (Digits minus token) sound stands is = tt
known_tag {document = document} (Called name) sound stands is =
    λ unknown. sound TypeUnknown document name.at (tag_number stands is unknown refl)

-- a tag is said
pub says_tag : {ms : List ModuleTerm} {document m : ℕ} {tag : TagTerm} {mode : _} {of : TypeTerm} → AreFaultless ms →
    Stands ms document m (Under tag mode of) → ¬ ((own : Tag) → ¬ IsTag ms m tag own)
says_tag {document = document} {tag = tag} sound stands = λ none.
    sound (NotSupported unsupported.TagNumber) document (number_token tag.number).at
    (wide_tag stands (known_tag tag.number sound stands refl) none refl)

known_number : {ms : List ModuleTerm} {document m : ℕ} {of : TypeTerm} (number : NumberTerm) → AreFaultless ms →
    Stands ms document m of → IsNumberOf number of → IsKnown ms m number
known_number (Digits minus token) sound stands is = tt
known_number {document = document} (Called name) sound stands is =
    λ unknown. sound TypeUnknown document name.at (named_number stands is unknown refl)

-- a named number, an item and a named bit say a number
pub says_number : {ms : List ModuleTerm} {document m : ℕ} {of : TypeTerm} (number : NumberTerm) → AreFaultless ms →
    Stands ms document m of → IsNumberOf number of → ¬ ((n : ℤ) → ¬ IsNumber ms m number n)
says_number {document = document} number sound stands is = λ none.
    sound (NotSupported unsupported.WideNumber) document (number_token number).at
    (wide_number stands is (known_number number sound stands is) none refl)

known_bound : {ms : List ModuleTerm} {document m : ℕ} {of : TypeTerm} (number : NumberTerm) → AreFaultless ms →
    Stands ms document m of → IsBoundOf number of → IsKnownBound ms m of number
known_bound (Digits minus token) sound stands is = tt
known_bound {document = document} (Called name) sound stands is =
    λ unknown. sound TypeUnknown document name.at (bound stands is unknown.0 unknown.1 refl)

-- a bound says a number
pub says_bound : {ms : List ModuleTerm} {document m : ℕ} {of : TypeTerm} (number : NumberTerm) → AreFaultless ms →
    Stands ms document m of → IsBoundOf number of → ¬ ((n : ℤ) → ¬ IsBound ms m of number n)
says_bound {document = document} number sound stands is = λ none.
    sound (NotSupported unsupported.WideNumber) document (number_token number).at
    (wide_bound stands is (known_bound number sound stands is) none refl)

-- a constraint stands at a type that has a place for it
place_by : {ms : List ModuleTerm} {document m : ℕ} {of : TypeTerm} {limit : LimitTerm} {base : Base} →
    AreFaultless ms → Stands ms document m of → IsLimitOf limit of → HasBase ms m of base → (b : Bool) →
    has_place base limit ≡ b → has_place base limit ≡ true
place_by sound stands is has true e = e
place_by {document = document} {of = of} {limit = limit} sound stands is has false e =
    absurd (sound (NotSupported unsupported.MisplacedConstraint) document
    (bound_or_word (limit_ranges limit) (first_word of)).at (misplaced stands is has e refl))

pub faultless_place : {ms : List ModuleTerm} {document m : ℕ} {of : TypeTerm} {limit : LimitTerm} {base : Base} →
    AreFaultless ms → Stands ms document m of → IsLimitOf limit of → HasBase ms m of base →
    has_place base limit ≡ true
faultless_place {limit = limit} {base = base} sound stands is has =
    place_by sound stands is has (has_place base limit) refl
