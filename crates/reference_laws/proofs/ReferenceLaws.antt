-- ReferenceLaws: in the schema of linked parts each reference is to a record of the schema (X.722, section 8;
-- docs/PROFILE.md, section 9).
use Rattle.std.specs.Prelude.{◌≡◌, ◌∷◌, [], ℕ, List, Some, All, Contains, refl}
use Rattle.std.proofs.Common.{◌∙◌, ap, sym}
use Rattle.std.proofs.Math.Path.{subst}
use Rattle.std.proofs.lemmas.List.Elements.{All-contains}
use Rattle.term_model.specs.WholeRecords.{IsAction, IsAttribute, IsClass, IsNotification, IsWholeBinding, IsWholeUse}
use Rattle.term_model.specs.declared.packages.GroupUse.{GroupUse}
use Rattle.term_model.specs.declared.packages.PackageRec.{PackageRec}
use Rattle.term_model.specs.declared.rule.RuleRec.{RuleRec}
use Rattle.term_model.specs.declared.schema.ClassRec.{ClassRec}
use Rattle.term_model.specs.declared.schema.GroupRec.{GroupRec}
use Rattle.term_model.specs.declared.schema.InstRec.{InstRec}
use Rattle.term_model.specs.declared.schema.Set.{Set}
use Rattle.asn1_names.specs.ModuleTerms.{ModuleTerm}
use Rattle.gdmo_names.specs.FirstLabelFault.{AreFaultless}
use Rattle.gdmo_names.specs.PartViews.{part_terms}
use Rattle.gdmo_names.specs.declared.parsed.Parsed.{Parsed}
use Rattle.linked_parts.specs.declared.linked.Linked.{Linked}
use Rattle.linked_parts.specs.declared.linked.LinkedGroupUse.{LinkedGroupUse}
use Rattle.linked_parts.specs.declared.linked.LinkedPackage.{LinkedPackage}
use Rattle.linked_parts.specs.declared.linked.LinkedRule.{LinkedRule}
use Rattle.linked_documents.specs.LinkedParts.{AreLinkedParts}
use Rattle.linked_types.specs.PartIdentifiers.{AreEach, IsAttributeId, IsClassId, IsIdentified}
use Rattle.section_values.specs.SectionRecords.{IsRule}
use Rattle.schema_records.specs.ClassRecords.{IsClass as IsClassRecord, IsGroupUse}
use Rattle.schema_records.specs.ClassRecords.{IsProperty}
use Rattle.schema_records.specs.MemberRecords.{AreRecords, IsBinding, IsGroup as IsGroupRecord}
use Rattle.schema_records.proofs.ClassLaws.{at_contains, named_part}
use Rattle.instance_records.specs.InstanceRecords.{AreInstanceRecords, IsInstanceRecord}
use Rattle.reference_laws.specs.SchemaReferences.{AllPackages, IsAttributeThere, IsInstanceThere, IsLinkedPackage}
use Rattle.reference_laws.specs.SchemaReferences.{IsRuleThere, IsStated, NamesThere}
use Rattle.reference_laws.proofs.AttributeLaws.{attribute_there as there_attribute, is_attribute}
use Rattle.reference_laws.proofs.FixedLaws.{AddsNoFixed, packages_fixed}
use Rattle.reference_laws.proofs.PlaceLaws.{all_made}
use Rattle.reference_laws.proofs.SchemaLaws.{action_there, group_there, is_action, is_class, is_notification}
use Rattle.reference_laws.proofs.SchemaLaws.{packages_made}

none_made : {A B : Type 0} (Is : A → B → Type 0) (ys : List B) → AreEach Is [] ys → ys ≡ []
none_made Is [] each = refl
none_made Is (y ∷ ys) each = absurd each

module _ (ms : List ModuleTerm) (linked : Linked) (schema : Set) (are : AreRecords ms linked schema) where
  -- the record of the attribute that an identifier names
  pub attribute_there : (k : ℕ) (id : List ℕ) → IsAttributeId linked k id → IsAttributeThere ms linked schema k id
  attribute_there = there_attribute ms linked schema are.attributes_are

  attributes_there : (places : List ℕ) (ids : List (List ℕ)) → AreEach (IsAttributeId linked) places ids →
      All (IsAttribute schema) ids
  attributes_there places ids = all_made (IsAttributeId linked) (IsAttribute schema) places ids
      (λ k id has is. is_attribute ms linked schema are.attributes_are k id is)

  -- ---- classes and groups

  pub superclasses_there : All (λ (of_class : ClassRec). All (IsClass schema) of_class.superclasses) schema.classes
  superclasses_there = all_made (IsClassRecord ms linked)
      (λ (of_class : ClassRec). All (IsClass schema) of_class.superclasses) linked.classes.items schema.classes
      (λ part x stands is. all_made (IsClassId linked) (IsClass schema) part.superclasses.items x.superclasses
      (λ k id has named. is_class ms linked schema are k id named) is.superclasses_are) are.classes_are

  pub members_there : All (λ (group : GroupRec). All (IsAttribute schema) group.members) schema.groups
  members_there = all_made (IsGroupRecord linked) (λ (group : GroupRec). All (IsAttribute schema) group.members)
      linked.groups.items schema.groups
      (λ part x stands is. attributes_there part.elements.items x.members is.members_are) are.groups_are

  -- ---- packages

  use_whole : (stated : LinkedGroupUse) (x : GroupUse) → AddsNoFixed linked stated → IsGroupUse linked stated x →
      IsWholeUse schema x
  use_whole stated x fixed is =
      let there = group_there ms linked schema are stated.group x.group is.is_group in
      record {
        group = there.x;
        known = there.known;
        named = there.called;
        added = attributes_there stated.added.items x.added is.are_added;
        fixed = λ is_fixed. none_made (IsAttributeId linked) x.added
            (subst (λ ks. AreEach (IsAttributeId linked) ks x.added)
            (fixed there.part there.stands (there.is.is_fixed ∙ is_fixed)) is.are_added);
      }

  pub packages_there : (parts : Parsed) → AreLinkedParts (part_terms parts) linked →
      AreFaultless (part_terms parts) → AllPackages (NamesThere schema) schema
  packages_there parts linked_parts faultless = packages_made ms linked schema are (NamesThere schema)
      (λ k part x at is. record {
        actions = all_made (IsIdentified (λ y. y.head) linked.actions.items) (IsAction schema) part.actions.items
            x.actions (λ place id has named. is_action ms linked schema are place id named) is.actions_are;
        notifications = all_made (IsIdentified (λ y. y.head) linked.notifications.items) (IsNotification schema)
            part.notifications.items x.notifications
            (λ place id has named. is_notification ms linked schema are place id named) is.notifications_are;
        groups = all_made (IsGroupUse linked) (IsWholeUse schema) part.groups.items x.groups
            (λ stated y has is_use. use_whole stated y (All-contains (AddsNoFixed linked) part.groups.items stated
            (packages_fixed (part_terms parts) faultless linked linked_parts k part at) has) is_use) is.groups_are;
      })

  pub stated_there : AllPackages (λ (of_package : PackageRec). All (IsStated ms linked schema) of_package.attributes)
      schema
  stated_there = packages_made ms linked schema are
      (λ (of_package : PackageRec). All (IsStated ms linked schema) of_package.attributes)
      (λ k part x at is. all_made (IsProperty ms linked) (IsStated ms linked schema) part.attributes.items x.attributes
      (λ stated y says is_property. record {
        place = k;
        part = part;
        stands = at;
        stated = stated;
        says = says;
        is = is_property;
        attribute = attribute_there stated.attribute y.attribute is_property.is_attribute;
      }) is.attributes_are)

  -- ---- name bindings and rules

  pub bindings_whole : All (IsWholeBinding schema) schema.bindings
  bindings_whole = all_made (IsBinding linked) (IsWholeBinding schema) linked.bindings.items schema.bindings
      (λ part x stands is. record {
        subordinate = is_class ms linked schema are part.subordinate x.subordinate.class is.is_subordinate;
        superior = is_class ms linked schema are part.superior x.superior.class is.is_superior;
        attribute = is_attribute ms linked schema are.attributes_are part.attribute x.attribute is.is_attribute;
      }) are.bindings_are

  rule_there : (stated : LinkedRule) (x : RuleRec) → Contains linked.rules.items stated → IsRule ms linked stated x →
      IsRuleThere ms linked schema x
  rule_there stated x listed is =
      let there = action_there ms linked schema are stated.action x.action is.is_action in
      record {
        stated = stated;
        listed = listed;
        is = is;
        class = is_class ms linked schema are stated.class x.class is.is_class;
        action = there.x;
        known = there.known;
        named = there.called;
        part = there.part;
        stands = there.stands;
        of_place = there.is;
      }

  pub rules_there : All (IsRuleThere ms linked schema) schema.rules
  rules_there = all_made (IsRule ms linked) (IsRuleThere ms linked schema) linked.rules.items schema.rules rule_there
      are.rules_are

  -- ---- instances

  module _ (of_instances : AreInstanceRecords ms linked schema.instances schema.system) where
    linked_package : (k : ℕ) (id : List ℕ) →
        IsIdentified (λ (y : LinkedPackage). y.head) linked.packages.items k id → IsLinkedPackage linked id
    linked_package k id is =
        let named = named_part (λ (y : LinkedPackage). y.head) linked.packages.items k id is in
        (named.part, at_contains linked.packages.items k named.part named.stands, named.called)

    pub instances_there : All (IsInstanceThere ms linked schema) schema.instances
    instances_there = all_made (IsInstanceRecord ms linked) (IsInstanceThere ms linked schema)
        linked.instances.items schema.instances (λ stated x listed is. record {
          stated = stated;
          listed = listed;
          is = is;
          class = is_class ms linked schema are stated.class x.class is.is_class;
          chosen = all_made (IsIdentified (λ y. y.head) linked.packages.items) (IsLinkedPackage linked)
              stated.packages.items x.chosen (λ k id has named. linked_package k id named) is.chosen_are;
        }) of_instances.instances_are
