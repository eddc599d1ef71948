-- The numbers and sizes of the records that a log holds: X.735, section 8; docs/PROFILE.md, section 21. A record's
-- number is the value by which it is named.
use Rattle.std.specs.Prelude.{ℤ, pos, ◌+ℤ◌, List, [], ◌∷◌, Option, None, Some, int_le, map, option_and_then}
use Rattle.std.specs.Prelude.{if◌then◌else◌}
use Rattle.std.specs.Option.{unwrap_or}
use Rattle.term_values.specs.Typed.{TypedValue}
use Rattle.term_values.specs.Typed.TypedValue.{Int}
use Rattle.term_model.specs.declared.name.Rdn.{Rdn}
use Rattle.term_model.specs.declared.objects.NamedObject.{NamedObject}
use Rattle.term_model.specs.declared.schema.AttrRec.{AttrRec}
use Rattle.term_model.specs.declared.schema.Set.{Set}
use Rattle.term_model.specs.ClassAttributes.{syntax_of}
use Rattle.term_model.specs.CreateValues.{value_of_octets}
use Rattle.term_model.specs.Creating.{last_of}
use Rattle.term_model.specs.LogRecords.{record_size, records_of}
use Rattle.event_model.specs.declared.held_records.HeldRecord.{HeldRecord}

abbrev pub whole_number : TypedValue → Option ℤ
whole_number (Int n) = Some n
whole_number _ = None

-- the number by which a record is named
abbrev pub part_number : List AttrRec → Rdn → Option ℤ
part_number records part =
    option_and_then whole_number
    (option_and_then (λ syntax. value_of_octets syntax part.value) (syntax_of records part.attribute))

abbrev pub name_number : List AttrRec → List Rdn → Option ℤ
name_number records [] = None
name_number records (first ∷ rest) = part_number records (last_of first rest)

abbrev pub record_number : Set → NamedObject → ℤ
record_number schema entry = unwrap_or (name_number schema.attributes entry.name) (pos 0)

-- records by rising number
abbrev pub placed_by_number : Set → NamedObject → List NamedObject → List NamedObject
placed_by_number schema entry [] = entry ∷ []
placed_by_number schema entry (first ∷ others) =
    if int_le (record_number schema entry) (record_number schema first) then entry ∷ first ∷ others
    else first ∷ placed_by_number schema entry others

abbrev pub by_number : Set → List NamedObject → List NamedObject
by_number schema [] = []
by_number schema (entry ∷ others) = placed_by_number schema entry (by_number schema others)

-- the records of the log with this name, by rising number
abbrev pub numbered_records : Set → List Rdn → List NamedObject → List NamedObject
numbered_records schema log objects = by_number schema (records_of schema log objects)

-- and what an append asks of them
abbrev pub held_record : Set → NamedObject → HeldRecord
held_record schema entry = record { number = record_number schema entry; size = record_size schema entry }

abbrev pub held_records : Set → List Rdn → List NamedObject → List HeldRecord
held_records schema log objects = map (held_record schema) (numbered_records schema log objects)

-- the number of the next record: one more than the greatest, else 1
abbrev pub greatest : ℤ → List ℤ → ℤ
greatest number [] = number
greatest number (next ∷ others) = greatest (if int_le number next then next else number) others

abbrev pub next_number : List ℤ → ℤ
next_number [] = pos 1
next_number (number ∷ others) = greatest number others +ℤ pos 1
