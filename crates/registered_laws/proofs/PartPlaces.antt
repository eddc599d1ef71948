-- PartPlaces: where a reference is linked, the part at its place is there, and registered where a record names it.
use Rattle.std.specs.Prelude.{◌≡◌, ℕ, true, refl}
use Rattle.gdmo_names.specs.DocumentTemplates.{templates}
use Rattle.gdmo_names.specs.FirstLabelFault.{AreFaultless}
use Rattle.gdmo_names.specs.Mentions.{Role, must_be_registered, wanted_kind}
use Rattle.gdmo_names.specs.PartTerms.{PartTerms}
use Rattle.gdmo_names.specs.References.{Refers}
use Rattle.gdmo_names.specs.TemplateTerms.{ReferenceTerm}
use Rattle.gdmo_names.specs.TemplateTerms.TemplateKind.{ActionKind, AttributeKind, ClassKind, GroupKind}
use Rattle.gdmo_names.specs.TemplateTerms.TemplateKind.{NotificationKind, PackageKind}
use Rattle.gdmo_linking.specs.LinkedTables.{Links}
use Rattle.linked_parts.specs.declared.linked.Linked.{Linked}
use Rattle.linked_packages.specs.LinkedPackages.{IsPackageOf}
use Rattle.linked_templates.specs.LinkedMembers.{IsActionOf, IsAttributeOf, IsGroupOf, IsNotificationOf}
use Rattle.linked_templates.specs.LinkedTemplates.{IsClassOf}
use Rattle.linked_templates.specs.TemplateTables.{AreLinkedTemplates}
use Rattle.schema_records.specs.RegisteredParts.{IsActionPlace, IsAttributePlace, IsClassPlace, IsGroupPlace}
use Rattle.schema_records.specs.RegisteredParts.{IsNotificationPlace, IsPackagePlace}
use Rattle.registered_laws.specs.RegisteredKinds.{AreRegisteredKinds}
use Rattle.registered_laws.proofs.MentionLaws.{is_there, kind_place, role_place}

module _ (parts : PartTerms) (linked : Linked) (tables : AreLinkedTemplates parts (templates parts) linked) where
  pub package_place : {document : ℕ} {role : Role} {reference : ReferenceTerm} {k : ℕ} →
      wanted_kind role ≡ PackageKind → Links parts document role reference k → IsPackagePlace linked k
  package_place wanted links = is_there parts (λ x. x.head) (IsPackageOf parts) PackageKind linked.packages.items
      tables.packages wanted links

  pub attribute_place : AreFaultless parts → {document : ℕ} {role : Role} {reference : ReferenceTerm} {k : ℕ} →
      wanted_kind role ≡ AttributeKind → must_be_registered role ≡ true → Refers parts document role reference →
      Links parts document role reference k → IsAttributePlace linked k
  attribute_place faultless wanted must refers links = role_place parts (λ x. x.head) (IsAttributeOf parts)
      AttributeKind linked.attributes.items tables.attributes faultless wanted must refers links

  module _ (kinds : AreRegisteredKinds parts) {document : ℕ} {role : Role} {reference : ReferenceTerm} {k : ℕ} where
    pub class_place : wanted_kind role ≡ ClassKind → Links parts document role reference k → IsClassPlace linked k
    class_place wanted links = kind_place parts (λ x. x.head) (IsClassOf parts) ClassKind linked.classes.items
        tables.classes kinds refl wanted links

    pub group_place : wanted_kind role ≡ GroupKind → Links parts document role reference k → IsGroupPlace linked k
    group_place wanted links = kind_place parts (λ x. x.head) (IsGroupOf parts) GroupKind linked.groups.items
        tables.groups kinds refl wanted links

    pub action_place : wanted_kind role ≡ ActionKind → Links parts document role reference k → IsActionPlace linked k
    action_place wanted links = kind_place parts (λ x. x.head) (IsActionOf parts) ActionKind linked.actions.items
        tables.actions kinds refl wanted links

    pub notification_place : wanted_kind role ≡ NotificationKind → Links parts document role reference k →
        IsNotificationPlace linked k
    notification_place wanted links = kind_place parts (λ x. x.head) (IsNotificationOf parts) NotificationKind
        linked.notifications.items tables.notifications kinds refl wanted links
