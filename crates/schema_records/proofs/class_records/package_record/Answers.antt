-- The record says what its part says.
use Rattle.std.proofs.Common.{◌∙◌, rules, sym}
use Rattle.std.specs.Prelude.{All}
use Rattle.std.proofs.Math.Path.{subst}
use Rattle.linked_parts.specs.declared.linked.LinkedAction.{LinkedAction}
use Rattle.linked_parts.specs.declared.linked.LinkedNotification.{LinkedNotification}
use Rattle.linked_types.specs.PartIdentifiers.{AreEach, AreIdentified}
use Rattle.schema_records.specs.ClassRecords.{IsGroupUse}
use Rattle.schema_records.specs.RegisteredParts.{IsActionPlace, IsNotificationPlace, IsRegisteredUse}
use Rattle.schema_records.proofs.PropertyLaws.{properties_are, statements_registered}
use Rattle.schema_records.proofs.class_records.package_record.Goals as goal

pub returns : goal.returns
returns c = λ ms known.
    let parts = c.args.parts.now in
    let linked = parts.linked.now in
    let part = c.args.part.now in
    let statements = c.args.statements.now in record {
      is_id = search rules;
      is_label = sym c.in_ok-text_of.ensures;
      attributes_are = properties_are ms linked parts.table.now parts.values.now part.attributes.items statements
          c.in_ok-stated_properties.field-0 known.says known.types known.values_are
          (c.in_ok-stated_properties.ensures (statements_registered ms linked parts.table.now parts.values.now
          part.attributes.items statements known.says known.names.attributes));
      groups_are = subst (λ uses. AreEach (IsGroupUse linked) uses c.in_ok-group_uses.field-0) c.as_slice.ensures.value
          (c.in_ok-group_uses.ensures (subst (All (IsRegisteredUse linked)) (sym c.as_slice.ensures.value)
          known.names.groups));
      actions_are = subst (λ places. AreIdentified (λ (x : LinkedAction). x.head) linked.actions.items places
          c.in_ok-action_ids.field-0) c.as_slice-2.ensures.value
          (c.in_ok-action_ids.ensures (subst (All (IsActionPlace linked)) (sym c.as_slice-2.ensures.value)
          known.names.actions));
      notifications_are = subst (λ places. AreIdentified (λ (x : LinkedNotification). x.head)
          linked.notifications.items places c.in_ok-notification_ids.field-0) c.as_slice-3.ensures.value
          (c.in_ok-notification_ids.ensures (subst (All (IsNotificationPlace linked)) (sym c.as_slice-3.ensures.value)
          known.names.notifications));
    }
