-- How many octets an object has at most, with the attributes by which a log tells of its records, and how many the
-- records of a log have together.
use Rattle.std.proofs.Common.{◌≡◌, ℕ, ◌+◌, ◌*◌, ◌≤◌, Bool, true, false, List, [], ◌∷◌, ◌++◌, refl, sym, ap, ◌∙◌}
use Rattle.std.proofs.Common.{arith, length, length-append, not, zero-add}
use Rattle.std.proofs.lemmas.Bool.{and_parts}
use Rattle.std.proofs.lemmas.List.Sums.{sum_by-cons}
use Rattle.std.specs.Cmp.Lexicographic.{nat_list_cmp_total, slice_cmp}
use Rattle.std.specs.List.{AllByRecursion}
use Rattle.std.specs.List.Sorted.{IsStrictlySortedBy}
use Rattle.std.specs.Ordering.{nat_cmp, ordering_reverse}
use Rattle.std.specs.declared.cmp.Ordering.TheVariants.{Less}
use Rattle.std.specs.Prelude.{◌&&◌, ◌||◌, codes, filter, map, sum, if◌then◌else◌}
use Rattle.term_values.specs.Oid.{oid_contents}
use Rattle.term_values.specs.Der.{encoded}
use Rattle.term_values.specs.Rearranged.{joined, rising}
use Rattle.term_values.specs.Tag.{universal}
use Rattle.term_values.proofs.LengthCounts.{length_rising}
use Rattle.term_model.specs.declared.object.Attribute.{Attribute}
use Rattle.term_model.specs.declared.object.Object.{Object}
use Rattle.term_model.specs.declared.objects.NamedObject.{NamedObject}
use Rattle.term_model.specs.declared.schema.Set.{Set}
use Rattle.term_model.specs.BoundClasses.{counts, is_bound_log, object_size}
use Rattle.term_model.specs.ClassAttributes.{is_labelled}
use Rattle.term_model.specs.GetRequest.{global_form}
use Rattle.term_model.specs.LogRecords.{record_size}
use Rattle.term_model.specs.ObjectOperation.{attribute_octets, value_octets}
use Rattle.term_model.specs.ObjectAttributes.{identifiers}
use Rattle.term_model.specs.WholeSet.{IsWhole}
use Rattle.opening_laws.proofs.EncodingLengths.{contents_within, encoded_short, identifier_contents_short}
use Rattle.opening_laws.proofs.Full.{IsBounded}
use Rattle.opening_laws.proofs.AttributeKinds.{same_labelled}

-- ---- one attribute

abbrev pub size_of : Set → Attribute → ℕ
size_of schema held = length (attribute_octets schema.attributes held)

attribute_short : (schema : Set) (held : Attribute) → IsBounded schema held → size_of schema held ≤ 8589935000
attribute_short schema held (identifier, long) =
    let contents = identifier_contents_short held.id identifier.0 in
    let first = encoded_short false global_form (oid_contents held.id) in
    let both = length-append (encoded false global_form (oid_contents held.id)) (value_octets schema.attributes held) in
    let whole : length (attribute_octets schema.attributes held)
    ≤ 15 + length (encoded false global_form (oid_contents held.id) ++ value_octets schema.attributes held) =
    encoded_short true (universal 16)
    (encoded false global_form (oid_contents held.id) ++ value_octets schema.attributes held) in
    omega (arith, contents, first, both, whole, long)

-- ---- the attributes of which a test holds

abbrev weigh : Set → (Attribute → Bool) → List Attribute → ℕ
weigh schema test [] = 0
weigh schema test (held ∷ others) = (if test held then size_of schema held else 0) + weigh schema test others

Rising : List (List ℕ) → Type 0
Rising = IsStrictlySortedBy (slice_cmp nat_cmp)

not_before_itself : (id : List ℕ) → slice_cmp nat_cmp id id ≡ Less → ⊥
not_before_itself id e =
    let turned = nat_list_cmp_total.antisymm id id ∙ ap ordering_reverse e in
    absurd (cc)

-- a test that holds of one attribute alone
abbrev HoldsOnce : (Attribute → Bool) → Type 0
HoldsOnce test = (one other : Attribute) → test one ≡ true → test other ≡ true → one.id ≡ other.id

none_behind : (schema : Set) (test : Attribute → Bool) (first : Attribute) (others : List Attribute) → HoldsOnce test
    → test first ≡ true
    → AllByRecursion (λ id. slice_cmp nat_cmp first.id id ≡ Less) (identifiers others) → weigh schema test others ≡ 0
none_behind schema test first [] once holds all = refl
none_behind schema test first (held ∷ others) once holds all =
    by (test held) refl (none_behind schema test first others once holds all.1)
  where
    by : (b : Bool) → test held ≡ b → weigh schema test others ≡ 0
        → (if b then size_of schema held else 0) + weigh schema test others ≡ 0
    by true is rest =
        absurd
        (not_before_itself first.id
        (ap (slice_cmp nat_cmp first.id) (once first held holds is) ∙ all.0))
    by false is rest = omega (arith, rest)

once_short : (schema : Set) (test : Attribute → Bool) (attributes : List Attribute) → HoldsOnce test
    → Rising (identifiers attributes) → AllByRecursion (IsBounded schema) attributes
    → weigh schema test attributes ≤ 8589935000
unfolding IsStrictlySortedBy Rising
once_short schema test [] once rises all = omega arith
once_short schema test (held ∷ others) once rises all =
    by (test held) refl (once_short schema test others once rises.1 all.1)
  where
    by : (b : Bool) → test held ≡ b → weigh schema test others ≤ 8589935000
        → (if b then size_of schema held else 0) + weigh schema test others ≤ 8589935000
    by true is rest =
        let none = none_behind schema test held others once is rises.0 in
        let short = attribute_short schema held all.0 in
        omega (arith, none, short)
    by false is rest = omega (arith, rest)

-- ---- all attributes

abbrev weigh_all : Set → List Attribute → ℕ
weigh_all schema [] = 0
weigh_all schema (held ∷ others) = size_of schema held + weigh_all schema others

-- a size is counted, or is that of an attribute that tells of records
split : (b x y z : Bool) (size : ℕ)
    → size
    ≤ (if not (b && (x || y || z)) then size else 0) + (if b && x then size else 0) + (if b && y then size else 0)
    + (if b && z then size else 0)
split false x y z size = omega arith
split true true y z size = omega arith
split true false true z size = omega arith
split true false false true size = omega arith
split true false false false size = omega arith

abbrev labelled : Set → List ℕ → List ℕ → Attribute → Bool
labelled schema class label held = is_bound_log schema class && is_labelled schema.attributes label held.id

abbrev measured_so : Set → List ℕ → Attribute → Bool
measured_so schema class held = counts schema class held.id

split_all : (schema : Set) (class : List ℕ) (attributes : List Attribute)
    → weigh_all schema attributes
    ≤ weigh schema (measured_so schema class) attributes
    + weigh schema (labelled schema class (codes "availabilityStatus")) attributes
    + weigh schema (labelled schema class (codes "currentLogSize")) attributes
    + weigh schema (labelled schema class (codes "numberOfRecords")) attributes
split_all schema class [] = omega arith
split_all schema class (held ∷ others) =
    let one = split (is_bound_log schema class) (is_labelled schema.attributes (codes "availabilityStatus") held.id)
    (is_labelled schema.attributes (codes "currentLogSize") held.id)
    (is_labelled schema.attributes (codes "numberOfRecords") held.id) (size_of schema held) in
    let rest = split_all schema class others in
    omega (arith, one, rest)

labelled_once : (schema : Set) (class label : List ℕ) → IsWhole schema → HoldsOnce (labelled schema class label)
labelled_once schema class label whole one other first second =
    same_labelled schema label one.id other.id whole
    (and_parts (is_bound_log schema class) (is_labelled schema.attributes label one.id) first).1
    (and_parts (is_bound_log schema class) (is_labelled schema.attributes label other.id) second).1

-- ---- an object

measured_length : (schema : Set) (test : Attribute → Bool) (attributes : List Attribute)
    → length (joined (map (attribute_octets schema.attributes) (filter test attributes)))
    ≡ weigh schema test attributes
measured_length schema test [] = refl
measured_length schema test (held ∷ others) = by (test held) (measured_length schema test others)
  where
    rest : List Attribute
    rest = filter test others

    by : (b : Bool)
        → length (joined (map (attribute_octets schema.attributes) rest)) ≡ weigh schema test others
        → length (joined (map (attribute_octets schema.attributes) (if b then held ∷ rest else rest)))
        ≡ (if b then size_of schema held else 0) + weigh schema test others
    by true same =
        let whole = length-append (attribute_octets schema.attributes held)
        (joined (map (attribute_octets schema.attributes) rest)) in
        omega (arith, whole, same)
    by false same = same ∙ sym (zero-add (weigh schema test others))

all_length : (schema : Set) (attributes : List Attribute)
    → length (joined (map (attribute_octets schema.attributes) attributes)) ≡ weigh_all schema attributes
all_length schema [] = refl
all_length schema (held ∷ others) =
    let whole = length-append (attribute_octets schema.attributes held)
    (joined (map (attribute_octets schema.attributes) others)) in
    let rest = all_length schema others in
    omega (arith, whole, rest)

measured_within : (schema : Set) (object : Object)
    → weigh schema (measured_so schema object.class) object.attrs ≤ object_size schema object
measured_within schema object =
    let members = map (attribute_octets schema.attributes) (filter (measured_so schema object.class) object.attrs) in
    let same = measured_length schema (measured_so schema object.class) object.attrs in
    let order = length_rising members in
    let within = contents_within true (universal 17) (joined (rising members)) in
    omega (arith, same, order, within)

pub record_short : (schema : Set) (entry : NamedObject) → IsWhole schema
    → IsStrictlySortedBy (slice_cmp nat_cmp) (identifiers entry.object.attrs)
    → AllByRecursion (IsBounded schema) entry.object.attrs → object_size schema entry.object ≤ 16384
    → record_size schema entry ≤ 26000000000
unfolding Rising
record_short schema entry whole rises all small =
    let class = entry.object.class in
    let attributes = entry.object.attrs in
    let members = map (attribute_octets schema.attributes) attributes in
    let header = encoded_short true (universal 17) (joined (rising members)) in
    let order = length_rising members in
    let sum_of = all_length schema attributes in
    let parts = split_all schema class attributes in
    let measured = measured_within schema entry.object in
    let status = once_short schema (labelled schema class (codes "availabilityStatus")) attributes
    (labelled_once schema class (codes "availabilityStatus") whole) rises all in
    let size = once_short schema (labelled schema class (codes "currentLogSize")) attributes
    (labelled_once schema class (codes "currentLogSize") whole) rises all in
    let number = once_short schema (labelled schema class (codes "numberOfRecords")) attributes
    (labelled_once schema class (codes "numberOfRecords") whole) rises all in
    omega (arith, header, order, sum_of, parts, measured, status, size, number, small)

-- ---- the records of a log

pub sum_short : (schema : Set) (records : List NamedObject)
    → AllByRecursion (λ (entry : NamedObject). record_size schema entry ≤ 26000000000) records
    → sum (map (record_size schema) records) ≤ 26000000000 * length records
sum_short schema [] all = omega arith
sum_short schema (entry ∷ others) all =
    let whole : sum (map (record_size schema) (entry ∷ others))
    ≡ record_size schema entry + sum (map (record_size schema) others) =
    sum_by-cons (λ n. n) (record_size schema entry) (map (record_size schema) others) in
    let first = all.0 in
    let rest = sum_short schema others all.1 in
    omega (arith, whole, first, rest)
