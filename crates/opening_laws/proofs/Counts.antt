-- An object whose values are as they must be has such values when it tells of its records, if it is a log.
use Rattle.std.proofs.Common.{◌≡◌, ℕ, ◌<◌, ◌≤◌, Bool, true, false, List, [], ◌∷◌, refl, sym, ap}
use Rattle.std.proofs.Common.{◌∙◌, subst, arith, length}
use Rattle.std.proofs.lemmas.Bool.{false≢true}
use Rattle.std.specs.Cmp.Lexicographic.{slice_cmp}
use Rattle.std.specs.List.{AllByRecursion}
use Rattle.std.specs.List.Sorted.{IsStrictlySortedBy}
use Rattle.std.specs.Option.{option_map_or}
use Rattle.std.specs.Ordering.{nat_cmp}
use Rattle.std.specs.Prelude.{map, pos, sum, codes, if◌then◌else◌}
use Rattle.term_values.specs.Typed.TypedValue.{Int}
use Rattle.term_values.specs.Written.{der}
use Rattle.term_model.specs.declared.object.Attribute.{Attribute}
use Rattle.term_model.specs.declared.object.Object.{Object}
use Rattle.term_model.specs.declared.objects.NamedObject.{NamedObject}
use Rattle.term_model.specs.declared.schema.AttrRec.{AttrRec}
use Rattle.term_model.specs.declared.schema.ClassRec.{ClassRec}
use Rattle.term_model.specs.declared.schema.Set.{Set}
use Rattle.term_model.specs.AgentWritten.{is_agent_written, is_counter}
use Rattle.term_model.specs.BoundClasses.{is_bound_log}
use Rattle.term_model.specs.ClassAttributes.{is_labelled}
use Rattle.term_model.specs.LogRecords.{counted, counted_attribute, counted_entry, counted_log, counted_value}
use Rattle.term_model.specs.LogRecords.{is_record_of, record_size, records_of}
use Rattle.term_model.specs.WholeSet.{IsWhole}
use Rattle.opening_laws.proofs.AgentValues.{count_is, counter_written}
use Rattle.opening_laws.proofs.Full.{IsBounded, IsFull, IsFullAttribute}
use Rattle.opening_laws.proofs.Kept.{same_length}
use Rattle.opening_laws.proofs.AttributeKinds.{template_found}
use Rattle.opening_laws.proofs.Objects.{IsWellMade, attributes_rise, entry_well_made, not_measured}
use Rattle.opening_laws.proofs.RecordSizes.{record_short, sum_short}

pub record IsMade (schema : Set) (object : Object) : Type 0 where
  pub well : IsWellMade schema object
  pub full : IsFull schema object

abbrev pub AreMade : Set → List NamedObject → Type 0
AreMade schema = AllByRecursion (λ (entry : NamedObject). IsMade schema entry.object)

-- ---- one attribute

told_attribute : (schema : Set) (class : List ℕ) (of_class : ClassRec) (held : Attribute) (n : ℕ) → IsWhole schema
    → is_bound_log schema class ≡ true → is_counter schema true held.id ≡ true → n < 9223372036854775808
    → IsFullAttribute schema class of_class held
    → IsFullAttribute schema class of_class (record held { value = Int (pos n) })
told_attribute schema class of_class held n whole log told small (has, right, (identifier, long)) =
    let known = template_found schema has.template held.id whole has.known has.named in
    let count = count_is schema class held.id has.template n whole log known told small in
    let short = count.short in
    let written = ap (λ b. is_agent_written schema b held.id) log ∙ counter_written schema true held.id told in (
      record {
        template = has.template;
        known = has.known;
        named = has.named;
        fits = count.fits;
        small = λ counts. absurd (false≢true (sym (not_measured schema class held.id log told) ∙ counts));
      },
      λ plain. absurd (false≢true (sym plain ∙ written)),
      (
        identifier,
        subst (λ octets. length octets < 8589934592)
            (sym (ap (λ o. option_map_or (λ (one : AttrRec). der one.syntax (Int (pos n))) o []) known))
            (omega (arith, short)),
      ),
    )

counted_full : (schema : Set) (class : List ℕ) (of_class : ClassRec) (records : List NamedObject) (held : Attribute)
    → IsWhole schema → is_bound_log schema class ≡ true
    → ((id : List ℕ) → counted_value schema records id < 9223372036854775808)
    → IsFullAttribute schema class of_class held
    → IsFullAttribute schema class of_class (counted_attribute schema records held)
counted_full schema class of_class records held whole log small full =
    by (is_counter schema true held.id) refl
  where
    told : Attribute
    told = record held { value = Int (pos (counted_value schema records held.id)) }

    by : (b : Bool) → is_counter schema true held.id ≡ b
        → IsFullAttribute schema class of_class (if b then told else held)
    by true is =
        told_attribute schema class of_class held (counted_value schema records held.id) whole log is (small held.id)
        full
    by false is = full

counted_all : (schema : Set) (class : List ℕ) (of_class : ClassRec) (records : List NamedObject)
    (attributes : List Attribute) → IsWhole schema → is_bound_log schema class ≡ true
    → ((id : List ℕ) → counted_value schema records id < 9223372036854775808)
    → AllByRecursion (IsFullAttribute schema class of_class) attributes
    → AllByRecursion (IsFullAttribute schema class of_class) (map (counted_attribute schema records) attributes)
counted_all schema class of_class records [] whole log small all = tt
counted_all schema class of_class records (held ∷ others) whole log small all = (
  counted_full schema class of_class records held whole log small all.0,
  counted_all schema class of_class records others whole log small all.1,
)

-- ---- the records of a log

fewer : (schema : Set) (entry : NamedObject) (objects : List NamedObject)
    → length (records_of schema entry.name objects) ≤ length objects
fewer schema entry [] = omega arith
fewer schema entry (first ∷ others) = by (is_record_of schema entry.name first) (fewer schema entry others)
  where
    rest : List NamedObject
    rest = records_of schema entry.name others

    by : (b : Bool) → length rest ≤ length others
        → length (if b then first ∷ rest else rest) ≤ length (first ∷ others)
    by true less = omega (arith, less)
    by false less = omega (arith, less)

kept_in_records : (Fact : NamedObject → Type 0) (schema : Set) (entry : NamedObject) (objects : List NamedObject)
    → AllByRecursion Fact objects → AllByRecursion Fact (records_of schema entry.name objects)
kept_in_records Fact schema entry [] all = tt
kept_in_records Fact schema entry (first ∷ others) all =
    by (is_record_of schema entry.name first) (kept_in_records Fact schema entry others all.1)
  where
    rest : List NamedObject
    rest = records_of schema entry.name others

    by : (b : Bool) → AllByRecursion Fact rest → AllByRecursion Fact (if b then first ∷ rest else rest)
    by true behind = (all.0, behind)
    by false behind = behind

bounded : (schema : Set) (class : List ℕ) (of_class : ClassRec) (attributes : List Attribute)
    → AllByRecursion (IsFullAttribute schema class of_class) attributes
    → AllByRecursion (IsBounded schema) attributes
bounded schema class of_class [] all = tt
bounded schema class of_class (held ∷ others) all = (all.0.2, bounded schema class of_class others all.1)

made_short : (schema : Set) (entry : NamedObject) → IsWhole schema → IsMade schema entry.object
    → record_size schema entry ≤ 26000000000
made_short schema entry whole made =
    record_short schema entry whole
    (subst (IsStrictlySortedBy (slice_cmp nat_cmp)) (sym made.well.has)
    (attributes_rise schema entry.object.class entry.object.chosen))
    (bounded schema entry.object.class made.full.class entry.object.attrs made.full.all) made.well.small

all_short : (schema : Set) (objects : List NamedObject) → IsWhole schema → AreMade schema objects
    → AllByRecursion (λ (entry : NamedObject). record_size schema entry ≤ 26000000000) objects
all_short schema [] whole all = tt
all_short schema (entry ∷ others) whole all =
    (made_short schema entry whole all.0, all_short schema others whole all.1)

count_small : (schema : Set) (entry : NamedObject) (behind : List NamedObject) (id : List ℕ) → IsWhole schema
    → length behind ≤ 100000 → AreMade schema behind
    → counted_value schema (records_of schema entry.name behind) id < 9223372036854775808
count_small schema entry behind id whole few all =
    by (is_labelled schema.attributes (codes "numberOfRecords") id)
  where
    records : List NamedObject
    records = records_of schema entry.name behind

    by : (b : Bool)
        → (if b then length records else sum (map (record_size schema) records)) < 9223372036854775808
    by true =
        let less = fewer schema entry behind in
        omega (arith, few, less)
    by false =
        let less = fewer schema entry behind in
        let short = sum_short schema records
        (kept_in_records (λ (one : NamedObject). record_size schema one ≤ 26000000000) schema entry behind
        (all_short schema behind whole all)) in
        omega (arith, few, less, short)

-- ---- the objects

entry_full : (schema : Set) (entry : NamedObject) (behind : List NamedObject) → IsWhole schema
    → length behind ≤ 100000 → AreMade schema behind → IsFull schema entry.object
    → IsFull schema (counted_entry schema entry behind).object
entry_full schema entry behind whole few all full = by (is_bound_log schema entry.object.class) refl
  where
    records : List NamedObject
    records = records_of schema entry.name behind

    log : NamedObject
    log = record entry { object = counted_log schema records entry.object }

    by : (b : Bool) → is_bound_log schema entry.object.class ≡ b
        → IsFull schema (counted_entry schema entry behind).object
    by true is =
        subst (λ b. IsFull schema (if b then log else entry).object) (sym is)
        (record {
          class = full.class;
          known = full.known;
          all = counted_all schema entry.object.class full.class records entry.object.attrs whole is
              (λ id. count_small schema entry behind id whole few all) full.all;
        })
    by false is = subst (λ b. IsFull schema (if b then log else entry).object) (sym is) full

pub counted_made : (schema : Set) (objects : List NamedObject) → IsWhole schema → length objects ≤ 100000
    → AreMade schema objects → AreMade schema (counted schema objects)
counted_made schema [] whole few all = tt
counted_made schema (entry ∷ others) whole few all =
    let behind = counted_made schema others whole (omega (arith, few)) all.1 in
    let same = same_length schema others in (
      record {
        well = entry_well_made schema entry (counted schema others) all.0.well;
        full = entry_full schema entry (counted schema others) whole (omega (arith, few, same)) behind all.0.full;
      },
      behind,
    )
