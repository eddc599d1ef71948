-- The attributes that are added.
use Rattle.std.proofs.Common.{sym}
use Rattle.std.specs.Prelude.{All}
use Rattle.std.proofs.Math.Path.{subst}
use Rattle.linked_types.specs.PartIdentifiers.{AreEach, IsAttributeId}
use Rattle.schema_records.specs.RegisteredParts.{IsAttributePlace}
use Rattle.schema_records.proofs.class_records.group_use.Goals as goal

pub returns-clause-added : goal.returns-clause-added
returns-clause-added c = λ all.
    let linked = c.args.parts.now.linked.now in
    subst (λ places. AreEach (IsAttributeId linked) places c.in_ok-attribute_ids.field-0) c.as_slice.ensures.value
    (c.in_ok-attribute_ids.ensures (subst (All (IsAttributePlace linked)) (sym c.as_slice.ensures.value) all))
