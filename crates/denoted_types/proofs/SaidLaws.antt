-- SaidLaws: in modules without a fault named numbers have their numbers, and constraints their ranges (X.680, sections
-- 19 to 22 and 51).
use Rattle.std.proofs.Common.{◌≡◌, ◌⊎◌, inl, inr, ℕ, ℤ, List, [], ◌∷◌, Option, None, Some, Contains, refl}
use Rattle.std.proofs.Common.{unwrap_or}
use Rattle.term_values.specs.Syntaxes.{Named}
use Rattle.asn1_names.specs.ModuleTerms.{NumberTerm, NamedNumberTerm, RangeTerm, LimitTerm, TypeTerm, ModuleTerm}
use Rattle.asn1_names.specs.Constraining.{AreRanges, limit_ranges}
use Rattle.asn1_names.specs.Constraining.AreRanges.{no_more as no_ranges, another as another_range}
use Rattle.asn1_names.specs.DenotedSyntax.{AreNamed}
use Rattle.asn1_names.specs.DenotedSyntax.AreNamed.{no_more as no_names, another as another_name}
use Rattle.asn1_names.specs.FirstModuleFault.{AreFaultless}
use Rattle.asn1_names.specs.Occurrences.{Stands, IsLimitOf, IsNumberOf}
use Rattle.asn1_names.specs.WholeNumbers.{IsRange}
use Rattle.asn1_names.proofs.FaultlessLaws.{says_bound, says_number}
use Rattle.denoted_types.specs.DenotedTypes.{NotNone}
use Rattle.denoted_types.proofs.NarrowLaws.{behind, in_front}

-- ---- named numbers

pub says_names : {ms : List ModuleTerm} {document m : ℕ} {of : TypeTerm} → AreFaultless ms → Stands ms document m of →
    (xs : List NamedNumberTerm) → ((x : NamedNumberTerm) → Contains xs x → IsNumberOf x.number of) →
    NotNone (λ (names : Named). AreNamed ms m xs names)
says_names sound stands [] each = λ none. none [] no_names
says_names sound stands (x ∷ xs) each = λ none.
    says_number x.number sound stands (each x (in_front x xs)) (λ n is.
    says_names sound stands xs (λ y there. each y (behind x y xs there)) (λ names are.
    none ((x.name.text, n) ∷ names) (another_name is are)))

-- ---- ranges

greatest_stands : (range : RangeTerm) (upper : Option NumberTerm) → range.upper ≡ upper →
    (range.lower ≡ unwrap_or upper range.lower) ⊎ (range.upper ≡ Some (unwrap_or upper range.lower))
greatest_stands range None is = inl refl
greatest_stands range (Some bound) is = inr is

says_range : {ms : List ModuleTerm} {document m : ℕ} {of : TypeTerm} {limit : LimitTerm} → AreFaultless ms →
    Stands ms document m of → IsLimitOf limit of → (range : RangeTerm) → Contains (limit_ranges limit) range →
    NotNone (λ (pair : ℤ × ℤ). IsRange ms m of range pair)
says_range {limit = limit} sound stands is range there = λ none.
    says_bound range.lower sound stands
    (record { limit = limit; is_limit = is; range = range; stands = there; is = inl refl }) (λ least low.
    says_bound (unwrap_or range.upper range.lower) sound stands
    (record {
      limit = limit;
      is_limit = is;
      range = range;
      stands = there;
      is = greatest_stands range range.upper refl;
    }) (λ greatest high. none (least, greatest) (record { least = low; greatest = high })))

ranges_by : {ms : List ModuleTerm} {m : ℕ} {of : TypeTerm} (ranges : List RangeTerm) →
    ((range : RangeTerm) → Contains ranges range → NotNone (λ (pair : ℤ × ℤ). IsRange ms m of range pair)) →
    NotNone (λ (pairs : List (ℤ × ℤ)). AreRanges ms m of ranges pairs)
ranges_by [] said = λ none. none [] no_ranges
ranges_by (x ∷ xs) said = λ none.
    said x (in_front x xs) (λ pair is.
    ranges_by xs (λ range there. said range (behind x range xs there)) (λ pairs are.
    none (pair ∷ pairs) (another_range is are)))

pub says_ranges : {ms : List ModuleTerm} {document m : ℕ} {of : TypeTerm} (limit : LimitTerm) → AreFaultless ms →
    Stands ms document m of → IsLimitOf limit of →
    NotNone (λ (pairs : List (ℤ × ℤ)). AreRanges ms m of (limit_ranges limit) pairs)
says_ranges limit sound stands is =
    ranges_by (limit_ranges limit) (λ range there. says_range sound stands is range there)
