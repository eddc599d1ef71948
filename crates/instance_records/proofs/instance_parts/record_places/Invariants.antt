-- The places of the records so far.
use Rattle.std.proofs.Common.{List}
use Rattle.asn1_names.specs.ModuleTerms.{ModuleTerm}
use Rattle.schema_records.specs.MemberRecords.{AreAttributes}
use Rattle.instance_records.proofs.PlaceLaws.{ArePlacesBefore}
use Rattle.instance_records.proofs.instance_parts.record_places.Given as goal

abbrev pub invariant-loop-attribute : goal.invariant-loop-attribute
invariant-loop-attribute l = (ms : List ModuleTerm) →
    AreAttributes ms l.linked 0 l.linked.attributes.items l.records →
    ArePlacesBefore ms l.linked l.records l.places.items l.attribute-index l.next
