-- AlikeRecords: a schema that has the records of linked parts has those of all that are alike (X.722, section 8;
-- docs/PROFILE.md, section 18).
use Rattle.std.specs.Prelude.{List}
use Rattle.term_model.specs.declared.name.Rdn.{Rdn}
use Rattle.term_model.specs.declared.schema.InstRec.{InstRec}
use Rattle.term_model.specs.declared.schema.Set.{Set}
use Rattle.asn1_names.specs.ModuleTerms.{ModuleTerm}
use Rattle.linked_parts.specs.declared.linked.Linked.{Linked}
use Rattle.section_values.specs.SectionRecords.{IsRule}
use Rattle.schema_records.specs.ClassRecords.{IsClass}
use Rattle.schema_records.specs.MemberRecords.{AreRecords, IsAction, IsBinding, IsGroup, IsNotification}
use Rattle.instance_records.specs.InstanceRecords.{AreInstanceRecords, IsInstanceRecord}
use Rattle.accepted_laws.specs.AlikeParts.{ActionsAlike, AreAlike, BindingsAlike, ClassesAlike, GroupsAlike}
use Rattle.accepted_laws.specs.AlikeParts.{InstancesAlike, NotificationsAlike, RulesAlike}
use Rattle.accepted_schemas.proofs.AlikeBack.{alike_back}
use Rattle.accepted_schemas.proofs.CarriedNames.{each_carried}
use Rattle.accepted_schemas.proofs.CarriedPackages.{class_alike}
use Rattle.accepted_schemas.proofs.CarriedMembers.{action_alike, attributes_alike, binding_alike, group_alike}
use Rattle.accepted_schemas.proofs.CarriedMembers.{notification_alike}
use Rattle.accepted_schemas.proofs.CarriedSections.{instance_alike, rule_alike, system_alike}

module _ (ms : List ModuleTerm) (linked other : Linked) (alike : AreAlike linked other) where
  records_carried : (schema : Set) → AreRecords ms linked schema → AreRecords ms other schema
  records_carried schema are = record {
    classes_are = each_carried ClassesAlike (IsClass ms linked) (IsClass ms other) (class_alike ms alike)
        linked.classes.items other.classes.items schema.classes alike.classes are.classes_are;
    joined = are.joined;
    attributes_are = attributes_alike linked other alike ms other.attributes.items alike.attributes
        are.attributes_are;
    groups_are = each_carried GroupsAlike (IsGroup linked) (IsGroup other) (group_alike alike) linked.groups.items
        other.groups.items schema.groups alike.groups are.groups_are;
    bindings_are = each_carried BindingsAlike (IsBinding linked) (IsBinding other) (binding_alike alike)
        linked.bindings.items other.bindings.items schema.bindings alike.bindings are.bindings_are;
    actions_are = each_carried ActionsAlike (IsAction ms linked) (IsAction ms other) (action_alike alike ms)
        linked.actions.items other.actions.items schema.actions alike.actions are.actions_are;
    notifications_are = each_carried NotificationsAlike (IsNotification ms linked) (IsNotification ms other)
        (notification_alike alike ms) linked.notifications.items other.notifications.items schema.notifications
        alike.notifications are.notifications_are;
    rules_are = each_carried RulesAlike (IsRule ms linked) (IsRule ms other) (rule_alike ms alike)
        linked.rules.items other.rules.items schema.rules alike.rules are.rules_are;
  }

  instances_carried : (instances : List InstRec) (system : List Rdn) → AreInstanceRecords ms linked instances system →
      AreInstanceRecords ms other instances system
  instances_carried instances system are = record {
    instances_are = each_carried InstancesAlike (IsInstanceRecord ms linked) (IsInstanceRecord ms other)
        (instance_alike ms alike) linked.instances.items other.instances.items instances alike.instances
        are.instances_are;
    system_is = system_alike ms alike linked.instances.items other.instances.items system alike.instances
        are.system_is;
  }

pub records_alike : (ms : List ModuleTerm) (linked other : Linked) → AreAlike linked other → (schema : Set) →
    AreRecords ms other schema → AreRecords ms linked schema
records_alike ms linked other alike = records_carried ms other linked (alike_back linked other alike)

pub instances_alike : (ms : List ModuleTerm) (linked other : Linked) → AreAlike linked other →
    (instances : List InstRec) (system : List Rdn) → AreInstanceRecords ms other instances system →
    AreInstanceRecords ms linked instances system
instances_alike ms linked other alike = instances_carried ms other linked (alike_back linked other alike)
