-- Those so far.
use Rattle.std.proofs.Common.{take}
use Rattle.std.specs.Prelude.{All}
use Rattle.linked_parts.specs.declared.linked.LinkedField.{LinkedField}
use Rattle.schema_records.specs.MemberRecords.{IsField}
use Rattle.schema_records.specs.RegisteredParts.{IsAttributePlace}
use Rattle.linked_types.specs.PartIdentifiers.{AreEach}
use Rattle.schema_records.proofs.member_records.attribute_fields.Given as goal

abbrev pub invariant-loop-field : goal.invariant-loop-field
invariant-loop-field l = All (λ (field : LinkedField). IsAttributePlace l.parts.linked.now field.attribute) l.fields →
    AreEach (IsField l.parts.linked.now) (take l.field-index l.fields) l.items.items
