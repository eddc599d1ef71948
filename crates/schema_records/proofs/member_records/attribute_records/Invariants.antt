-- The records of the attributes so far.
use Rattle.std.proofs.Common.{List, take}
use Rattle.asn1_names.specs.ModuleTerms.{ModuleTerm}
use Rattle.linked_types.specs.KnownParts.{AreClosingParts}
use Rattle.schema_records.specs.MeantParts.{HaveSyntaxes}
use Rattle.schema_records.specs.MemberRecords.{AreAttributes}
use Rattle.schema_records.proofs.member_records.attribute_records.Given as goal

abbrev pub invariant-loop-place : goal.invariant-loop-place
invariant-loop-place l = (ms : List ModuleTerm) → AreClosingParts ms l.parts → HaveSyntaxes ms l.parts.linked.now →
    AreAttributes ms l.parts.linked.now 0 (take l.place l.parts.linked.now.attributes.items) l.records
