-- What is found at the places so far.
use Rattle.std.proofs.Common.{◌≡◌, ◌++◌, map}
use Rattle.std.specs.List.{filter_map}
use Rattle.std.specs.Map.Iter.{deref}
use Rattle.schema_records.specs.PropertyRecords.{type_syntax}
use Rattle.schema_records.proofs.property_records.syntaxes_at.Given as goal

abbrev pub invariant-loop-place : goal.invariant-loop-place
invariant-loop-place l = (map deref l.yielded ++ l.place-iterator ≡ l.places.keys)
    × (l.items.items ≡ filter_map (type_syntax l.parts.table.now) (map deref l.yielded))
