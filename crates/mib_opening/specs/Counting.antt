-- How many records a log has and how many octets these have, as numbers of the program.
use Rattle.std.specs.Prelude.{◌≡◌, ℤ, pos, ℕ, List, map, length, sum, if◌then◌else◌, codes, true}
use Rattle.term_values.specs.Lengths.{counted}
use Rattle.term_values.specs.Typed.TypedValue.{Int}
use Rattle.term_model.specs.declared.object.Attribute.{Attribute}
use Rattle.term_model.specs.declared.objects.NamedObject.{NamedObject}
use Rattle.term_model.specs.declared.schema.Set.{Set}
use Rattle.term_model.specs.AgentWritten.{is_counter}
use Rattle.term_model.specs.ClassAttributes.{is_labelled}
use Rattle.term_model.specs.LogRecords.{record_size}
use Rattle.mib_opening.specs.declared.log_records.RecordSums.{RecordSums}
use Rattle.mib_opening.specs.declared.log_counts.LogCounts.{LogCounts}

-- the sums over these records, in numbers of 64 bits
abbrev pub AreSums : Set → List NamedObject → RecordSums → Type 0
AreSums schema records sums =
    (sums.records ≡ counted (length records)) × (sums.octets ≡ counted (sum (map (record_size schema) records)))

-- the same in numbers that values hold
abbrev pub AreCounts : Set → List NamedObject → LogCounts → Type 0
AreCounts schema records counts =
    (counts.records ≡ pos (length records)) × (counts.octets ≡ pos (sum (map (record_size schema) records)))

-- what an attribute of a bound log tells of its records
abbrev pub count_of : Set → LogCounts → List ℕ → ℤ
count_of schema counts attribute =
    if is_labelled schema.attributes (codes "numberOfRecords") attribute then counts.records else counts.octets

abbrev pub recounted_attribute : Set → LogCounts → Attribute → Attribute
recounted_attribute schema counts held =
    if is_counter schema true held.id then record held { value = Int (count_of schema counts held.id) } else held
