-- The record says what its part says.
use Rattle.std.proofs.Common.{ap, refl, sym, Some, ◌∙◌}
use Rattle.std.specs.Prelude.{All}
use Rattle.std.proofs.Math.Path.{subst}
use Rattle.linked_types.specs.PartIdentifiers.{AreEach, IsAttributeId}
use Rattle.schema_records.specs.RegisteredParts.{IsAttributePlace}
use Rattle.schema_records.proofs.member_records.group_record.Goals as goal

pub returns : goal.returns
returns c = λ is all.
    let linked = c.args.parts.now.linked.now in record {
      registered = record {
        is_id = is ∙ ap Some (sym c.in_ok-copy.ensures);
        is_label = sym c.in_ok-text_of.ensures;
      };
      members_are = subst (λ places. AreEach (IsAttributeId linked) places c.in_ok-attribute_ids.field-0)
          c.as_slice.ensures.value
          (c.in_ok-attribute_ids.ensures (subst (All (IsAttributePlace linked)) (sym c.as_slice.ensures.value) all));
      is_fixed = refl;
    }
