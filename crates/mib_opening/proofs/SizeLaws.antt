-- The size of a record, and the counts of a log in numbers of the program.
use Rattle.std.proofs.Common.{◌≡◌, ℕ, pos, ◌+◌, ◌<◌, ◌^◌, Bool, true, false, List, [], ◌∷◌, length, refl, sym, ap, ◌∙◌}
use Rattle.std.proofs.Common.{arith, length-append}
use Rattle.std.specs.Prelude.{map, sum, codes, if◌then◌else◌}
use Rattle.term_values.specs.Lengths.{counted, octet_count}
use Rattle.term_values.specs.Rearranged.{joined, rising}
use Rattle.term_values.specs.Typed.TypedValue.{Int}
use Rattle.term_values.proofs.LengthCounts.{length_rising}
use Rattle.term_model.specs.declared.object.Attribute.{Attribute}
use Rattle.term_model.specs.declared.objects.NamedObject.{NamedObject}
use Rattle.term_model.specs.declared.schema.AttrRec.{AttrRec}
use Rattle.term_model.specs.declared.schema.Set.{Set}
use Rattle.term_model.specs.AgentWritten.{is_counter}
use Rattle.term_model.specs.ClassAttributes.{is_labelled}
use Rattle.term_model.specs.LogRecords.{counted_attribute, counted_value, record_size}
use Rattle.term_model.specs.ObjectOperation.{attribute_octets}
use Rattle.attribute_rules.specs.Weights.{weights}
use Rattle.mib_opening.specs.declared.log_counts.LogCounts.{LogCounts}
use Rattle.mib_opening.specs.Counting.{AreCounts, count_of, recounted_attribute}

-- ---- the size of a record

members_length : (records : List AttrRec) (attributes : List Attribute)
    → length (joined (map (attribute_octets records) attributes)) ≡ weights records false attributes
members_length records [] = refl
members_length records (attribute ∷ others) =
    length-append (attribute_octets records attribute) (joined (map (attribute_octets records) others))
    ∙ ap (λ n. length (attribute_octets records attribute) + n) (members_length records others)

pub set_contents : (records : List AttrRec) (attributes : List Attribute) (size : ℕ)
    → size ≡ counted (weights records false attributes)
    → size ≡ octet_count (joined (rising (map (attribute_octets records) attributes)))
set_contents records attributes size e =
    e ∙ ap counted (sym (length_rising (map (attribute_octets records) attributes)
    ∙ members_length records attributes))

-- ---- a count that a value holds

pub count_told : (n size : ℕ) → size ≡ counted n → size < 2 ^ 63 → size ≡ n
count_told n size e small = omega (arith, e)

-- ---- the attributes that tell of the records

count_is : (schema : Set) (records : List NamedObject) (counts : LogCounts) (id : List ℕ)
    → AreCounts schema records counts → count_of schema counts id ≡ pos (counted_value schema records id)
count_is schema records counts id are = by (is_labelled schema.attributes (codes "numberOfRecords") id)
  where
    by : (b : Bool) → (if b then counts.records else counts.octets)
        ≡ pos (if b then length records else sum (map (record_size schema) records))
    by true = are.0
    by false = are.1

held_counted : (schema : Set) (records : List NamedObject) (counts : LogCounts) (held : Attribute)
    → AreCounts schema records counts
    → recounted_attribute schema counts held ≡ counted_attribute schema records held
held_counted schema records counts held are =
    ap (λ n. if is_counter schema true held.id then record held { value = Int n } else held)
    (count_is schema records counts held.id are)

pub attributes_counted : (schema : Set) (records : List NamedObject) (counts : LogCounts) (attributes : List Attribute)
    → AreCounts schema records counts
    → map (recounted_attribute schema counts) attributes ≡ map (counted_attribute schema records) attributes
attributes_counted schema records counts [] are = refl
attributes_counted schema records counts (held ∷ others) are = λ i.
    held_counted schema records counts held are i ∷ attributes_counted schema records counts others are i
