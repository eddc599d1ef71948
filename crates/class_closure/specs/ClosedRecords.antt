-- ClosedRecords: what is asked of linked parts so that each has its record, and which records are those of closed
-- classes (X.722, section 8; docs/PROFILE.md, section 18).
use Rattle.std.specs.Prelude.{◌≡◌, ◌⊎◌, List, Some, All, Contains, slice_get}
use Rattle.term_model.specs.JoinedProperties.{HasJoined}
use Rattle.term_model.specs.declared.schema.Set.{Set}
use Rattle.asn1_names.specs.ModuleTerms.{ModuleTerm}
use Rattle.linked_parts.specs.declared.linked.Linked.{Linked}
use Rattle.linked_parts.specs.declared.linked.LinkedAttribute.{LinkedAttribute}
use Rattle.linked_parts.specs.declared.linked.LinkedInstance.{LinkedInstance}
use Rattle.linked_parts.specs.declared.linked.LinkedPair.{LinkedPair}
use Rattle.linked_types.specs.PartIdentifiers.{AreEach}
use Rattle.class_faults.specs.FirstClassFault.{AreFaultless}
use Rattle.meant_names.specs.MeantNames.{AreMeant}
use Rattle.section_values.specs.RegisteredSections.{AreRegisteredRules}
use Rattle.section_values.specs.SectionRecords.{IsInstance, IsRule}
use Rattle.schema_records.specs.ApartParts.{HaveOwnIdentifiers}
use Rattle.schema_records.specs.ClassRecords.{IsClass}
use Rattle.schema_records.specs.MemberRecords.{AreAttributes, IsAction, IsBinding, IsGroup, IsNotification}
use Rattle.schema_records.specs.RegisteredParts.{AreRegisteredParts}
use Rattle.class_closure.specs.declared.closing.Classes.{Classes}

-- the attributes that instances name are there
abbrev pub HaveTheirAttributes : Linked → Type 0
HaveTheirAttributes linked = (instance : LinkedInstance) (pair : LinkedPair) →
    Contains linked.instances.items instance →
    Contains instance.name.items pair ⊎ Contains instance.given.items pair →
    (x : LinkedAttribute) × (slice_get linked.attributes.items pair.attribute ≡ Some x)

-- Each part that a record names is there and registered, no two classes and no two attributes under one identifier,
-- and it isn't so that the type or the value of a name is none.
pub record CanHaveRecords (ms : List ModuleTerm) (linked : Linked) : Type 0 where
  pub are_registered : AreRegisteredParts linked
  pub have_own : HaveOwnIdentifiers linked
  pub rules_registered : AreRegisteredRules linked
  pub instances_there : HaveTheirAttributes linked
  pub are_meant : AreMeant ms linked

-- the records of templates are those of linked parts
pub record AreTemplateRecords (ms : List ModuleTerm) (linked : Linked) (x : Classes) : Type 0 where
  pub classes_are : AreEach (IsClass ms linked) linked.classes.items x.classes
  pub joined : (schema : Set) → schema.classes ≡ x.classes → All (HasJoined schema) x.classes
  pub attributes_are : AreAttributes ms linked 0 linked.attributes.items x.attributes
  pub groups_are : AreEach (IsGroup linked) linked.groups.items x.groups
  pub bindings_are : AreEach (IsBinding linked) linked.bindings.items x.bindings
  pub actions_are : AreEach (IsAction ms linked) linked.actions.items x.actions
  pub notifications_are : AreEach (IsNotification ms linked) linked.notifications.items x.notifications

-- and so are those of rules, and the values of instances
pub record AreClosedRecords (ms : List ModuleTerm) (linked : Linked) (x : Classes) : Type 0 where
  pub templates : AreTemplateRecords ms linked x
  pub rules_are : AreEach (IsRule ms linked) linked.rules.items x.rules
  pub instances_are : AreEach (IsInstance ms linked) linked.instances.items x.instances.items

-- nothing is wrong with the classes, and these are the records of parts that can have some
pub record IsClosed (ms : List ModuleTerm) (linked : Linked) (x : Classes) : Type 0 where
  pub faultless : AreFaultless ms linked
  pub records : CanHaveRecords ms linked → AreClosedRecords ms linked x
