-- The record says what its part says.
use Rattle.std.proofs.Common.{ap, refl, sym, Some, ◌∙◌}
use Rattle.schema_records.proofs.TypeLaws.{type_found}
use Rattle.schema_records.proofs.member_records.action_record.Goals as goal

pub returns : goal.returns
returns c = λ ms is told mean.
    let linked = c.args.parts.now.linked.now in
    let table = c.args.parts.now.table.now in
    let part = c.args.part.now in
    let types = c.args.types.now in record {
      registered = record {
        is_id = is ∙ ap Some (sym c.in_ok-id.ensures);
        is_label = sym c.in_ok-label.ensures;
      };
      is_confirmed = refl;
      is_information = type_found ms linked table part.information types.information
          c.in_ok-information.information told.of_information mean.of_information
          c.in_ok-information.ensures.information;
      is_reply = type_found ms linked table part.reply types.reply c.in_ok-information.reply told.of_reply
          mean.of_reply c.in_ok-information.ensures.reply;
    }
