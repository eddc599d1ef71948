-- OneSchema: linked parts have one schema at most: two schemas that have the records of the same linked parts say the
-- same (X.722, section 8; docs/PROFILE.md, section 18).
use Rattle.std.specs.Prelude.{List}
use Rattle.term_model.specs.JoinedProperties.{HasJoined}
use Rattle.term_model.specs.declared.schema.Set.{Set}
use Rattle.asn1_names.specs.ModuleTerms.{ModuleTerm}
use Rattle.linked_parts.specs.declared.linked.Linked.{Linked}
use Rattle.linked_types.specs.PartIdentifiers.{AreEach}
use Rattle.section_values.specs.SectionRecords.{IsRule}
use Rattle.schema_records.specs.ClassRecords.{IsClass}
use Rattle.schema_records.specs.MemberRecords.{AreRecords, IsAction, IsBinding, IsGroup, IsNotification}
use Rattle.instance_records.specs.InstanceRecords.{AreInstanceRecords, IsInstanceRecord}
use Rattle.one_schema.specs.SameSchemas.{AreSameClasses, AreSameSchemas, HaveSameTemplate}
use Rattle.one_schema.proofs.OnceLaws.{each_same, each_then, one_each}
use Rattle.one_schema.proofs.PackageLaws.{one_template}
use Rattle.one_schema.proofs.MemberLaws.{one_action, one_attributes, one_binding, one_group, one_notification}
use Rattle.one_schema.proofs.SectionLaws.{one_instance, one_rule, one_system}
use Rattle.one_schema.proofs.JoinedLaws.{same_class}

module _ (ms : List ModuleTerm) (linked : Linked) where
  -- the classes of both have the same templates
  templates_same : (one other : Set) → AreRecords ms linked one → AreRecords ms linked other →
      AreEach HaveSameTemplate one.classes other.classes
  templates_same one other are too =
      each_same (IsClass ms linked) HaveSameTemplate (one_template ms linked) linked.classes.items one.classes
      other.classes are.classes_are too.classes_are

  pub one_schema : (one other : Set) → AreRecords ms linked one →
      AreInstanceRecords ms linked one.instances one.system → AreRecords ms linked other →
      AreInstanceRecords ms linked other.instances other.system → AreSameSchemas one other
  one_schema one other are of_instances too further =
      let templates = templates_same one other are too in
      record {
        classes = each_then HaveSameTemplate AreSameClasses (HasJoined one) (HasJoined other)
            (same_class one other templates (templates_same other one too are)) one.classes other.classes are.joined
            too.joined templates;
        attributes = one_attributes ms linked one.attributes other.attributes are.attributes_are too.attributes_are;
        groups = one_each (IsGroup linked) (one_group linked) linked.groups.items one.groups other.groups
            are.groups_are too.groups_are;
        bindings = one_each (IsBinding linked) (one_binding linked) linked.bindings.items one.bindings other.bindings
            are.bindings_are too.bindings_are;
        actions = one_each (IsAction ms linked) (one_action ms linked) linked.actions.items one.actions other.actions
            are.actions_are too.actions_are;
        notifications = one_each (IsNotification ms linked) (one_notification ms linked) linked.notifications.items
            one.notifications other.notifications are.notifications_are too.notifications_are;
        rules = one_each (IsRule ms linked) (one_rule ms linked) linked.rules.items one.rules other.rules are.rules_are
            too.rules_are;
        instances = one_each (IsInstanceRecord ms linked) (one_instance ms linked) linked.instances.items one.instances
            other.instances of_instances.instances_are further.instances_are;
        system = one_system ms linked one.system other.system of_instances.system_is further.system_is;
      }
