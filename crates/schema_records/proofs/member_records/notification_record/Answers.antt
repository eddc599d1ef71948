-- The record says what its part says.
use Rattle.std.proofs.Common.{ap, sym, Some, ◌∙◌}
use Rattle.std.specs.Prelude.{All}
use Rattle.std.proofs.Math.Path.{subst}
use Rattle.linked_parts.specs.declared.linked.LinkedField.{LinkedField}
use Rattle.linked_types.specs.PartIdentifiers.{AreEach}
use Rattle.schema_records.specs.MemberRecords.{IsField}
use Rattle.schema_records.specs.RegisteredParts.{IsAttributePlace}
use Rattle.schema_records.proofs.TypeLaws.{type_found}
use Rattle.schema_records.proofs.member_records.notification_record.Goals as goal

pub returns : goal.returns
returns c = λ ms is all told mean.
    let linked = c.args.parts.now.linked.now in
    let table = c.args.parts.now.table.now in
    let part = c.args.part.now in
    let types = c.args.types.now in record {
      registered = record {
        is_id = is ∙ ap Some (sym c.in_ok-id.ensures);
        is_label = sym c.in_ok-label.ensures;
      };
      fields_are = subst (λ xs. AreEach (IsField linked) xs c.in_ok-fields.fields) c.as_slice.ensures.value
          (c.in_ok-fields.ensures (subst (All (λ (field : LinkedField). IsAttributePlace linked field.attribute))
          (sym c.as_slice.ensures.value) all));
      is_information = type_found ms linked table part.information types.information
          c.in_ok-information.information told.of_information mean.of_information
          c.in_ok-information.ensures.information;
      is_reply = type_found ms linked table part.reply types.reply c.in_ok-information.reply told.of_reply
          mean.of_reply c.in_ok-information.ensures.reply;
    }
