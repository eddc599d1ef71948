-- SchemaLaws: the records of a schema that identifiers of linked parts name, and what holds of its packages.
use Rattle.std.specs.Prelude.{ℕ, List, Some, All, slice_get}
use Rattle.std.proofs.Common.{◌≡◌}
use Rattle.term_model.specs.WholeRecords.{IsAction, IsClass, IsNotification}
use Rattle.term_model.specs.declared.actions.ActRec.{ActRec}
use Rattle.term_model.specs.declared.actions.NoteRec.{NoteRec}
use Rattle.term_model.specs.declared.packages.PackageRec.{PackageRec}
use Rattle.term_model.specs.declared.schema.ClassRec.{ClassRec}
use Rattle.term_model.specs.declared.schema.GroupRec.{GroupRec}
use Rattle.term_model.specs.declared.schema.Set.{Set}
use Rattle.asn1_names.specs.ModuleTerms.{ModuleTerm}
use Rattle.linked_parts.specs.declared.linked.Linked.{Linked}
use Rattle.linked_parts.specs.declared.linked.LinkedAction.{LinkedAction}
use Rattle.linked_parts.specs.declared.linked.LinkedClass.{LinkedClass}
use Rattle.linked_parts.specs.declared.linked.LinkedGroup.{LinkedGroup}
use Rattle.linked_parts.specs.declared.linked.LinkedNotification.{LinkedNotification}
use Rattle.linked_parts.specs.declared.linked.LinkedPackage.{LinkedPackage}
use Rattle.linked_types.specs.PartIdentifiers.{IsClassId, IsIdentified}
use Rattle.schema_records.specs.ClassRecords.{IsClass as IsClassRecord, IsPackage as IsPackageRecord, IsPackageAt}
use Rattle.schema_records.specs.MemberRecords.{AreRecords, IsAction as IsActionRecord, IsGroup as IsGroupRecord}
use Rattle.schema_records.specs.MemberRecords.{IsNotification as IsNotificationRecord}
use Rattle.reference_laws.specs.SchemaReferences.{AllPackages}
use Rattle.reference_laws.proofs.PlaceLaws.{IsThere, all_made, id_there, record_there}

module _ (ms : List ModuleTerm) (linked : Linked) (schema : Set) (are : AreRecords ms linked schema) where
  pub is_class : (k : ℕ) (id : List ℕ) → IsClassId linked k id → IsClass schema id
  is_class = id_there (λ (y : LinkedClass). y.head) (λ (x : ClassRec). x.id) (IsClassRecord ms linked)
      (λ part x is. is.registered.is_id) linked.classes.items schema.classes are.classes_are

  pub group_there : (k : ℕ) (id : List ℕ) → IsIdentified (λ (y : LinkedGroup). y.head) linked.groups.items k id →
      IsThere (IsGroupRecord linked) (λ (x : GroupRec). x.id) linked.groups.items schema.groups k id
  group_there = record_there (λ (y : LinkedGroup). y.head) (λ (x : GroupRec). x.id) (IsGroupRecord linked)
      (λ part x is. is.registered.is_id) linked.groups.items schema.groups are.groups_are

  pub action_there : (k : ℕ) (id : List ℕ) → IsIdentified (λ (y : LinkedAction). y.head) linked.actions.items k id →
      IsThere (IsActionRecord ms linked) (λ (x : ActRec). x.id) linked.actions.items schema.actions k id
  action_there = record_there (λ (y : LinkedAction). y.head) (λ (x : ActRec). x.id) (IsActionRecord ms linked)
      (λ part x is. is.registered.is_id) linked.actions.items schema.actions are.actions_are

  pub is_action : (k : ℕ) (id : List ℕ) → IsIdentified (λ (y : LinkedAction). y.head) linked.actions.items k id →
      IsAction schema id
  is_action = id_there (λ (y : LinkedAction). y.head) (λ (x : ActRec). x.id) (IsActionRecord ms linked)
      (λ part x is. is.registered.is_id) linked.actions.items schema.actions are.actions_are

  pub is_notification : (k : ℕ) (id : List ℕ) →
      IsIdentified (λ (y : LinkedNotification). y.head) linked.notifications.items k id → IsNotification schema id
  is_notification = id_there (λ (y : LinkedNotification). y.head) (λ (x : NoteRec). x.id)
      (IsNotificationRecord ms linked) (λ part x is. is.registered.is_id) linked.notifications.items
      schema.notifications are.notifications_are

  -- what holds of each record that is made of a linked package holds of all packages of classes
  pub packages_made : (P : PackageRec → Type 0) → ((k : ℕ) (part : LinkedPackage) (x : PackageRec) →
      slice_get linked.packages.items k ≡ Some part → IsPackageRecord ms linked part x → P x) → AllPackages P schema
  packages_made P step = all_made (IsClassRecord ms linked)
      (λ (x : ClassRec). All P x.mandatory × All P x.conditional) linked.classes.items schema.classes
      (λ part x has is. (
        all_made (IsPackageAt ms linked) P part.mandatory.items x.mandatory
            (λ k y own at. step k at.0 y at.1 at.2) is.mandatory_are,
        all_made (IsPackageAt ms linked) P part.conditional.items x.conditional
            (λ k y own at. step k at.0 y at.1 at.2) is.conditional_are,
      )) are.classes_are
