-- PartLaws: linked parts of documents without a fault of labels are registered where a record names them (X.722,
-- sections 8.3 to 8.11; docs/PROFILE.md, sections 12 and 18).
use Rattle.std.specs.Prelude.{◌≡◌, ℕ, All, refl, true}
use Rattle.std.proofs.Common.{◌∙◌, ap}
use Rattle.gdmo_names.specs.DocumentTemplates.{templates}
use Rattle.gdmo_names.specs.FirstLabelFault.{AreFaultless}
use Rattle.gdmo_names.specs.Mentions.{template_mentions}
use Rattle.gdmo_names.specs.PartTerms.{Placed, PartTerms, body_of}
use Rattle.gdmo_names.specs.References.Refers.{by_template}
use Rattle.gdmo_names.specs.TemplateTerms.{BodyTerm, TemplateKind}
use Rattle.gdmo_names.specs.TemplateTerms.TemplateKind.{ActionKind, BindingKind, ClassKind, GroupKind}
use Rattle.gdmo_names.specs.TemplateTerms.TemplateKind.{NotificationKind, PackageKind}
use Rattle.linked_parts.specs.declared.linked.Linked.{Linked}
use Rattle.linked_parts.specs.declared.linked.LinkedAction.{LinkedAction}
use Rattle.linked_parts.specs.declared.linked.LinkedHead.{LinkedHead}
use Rattle.linked_packages.specs.LinkedPackages.{IsPackageOf}
use Rattle.linked_templates.specs.LinkedMembers.{IsActionOf, IsBindingOf, IsGroupOf, IsNotificationOf}
use Rattle.linked_templates.specs.LinkedTemplates.{IsClassOf}
use Rattle.linked_templates.specs.TemplateTables.{IsTemplate}
use Rattle.linked_documents.specs.LinkedParts.{AreLinkedParts}
use Rattle.schema_records.specs.RegisteredParts.{AreRegisteredParts, HasIdentifier, IsRegisteredBinding}
use Rattle.schema_records.specs.RegisteredParts.{IsRegisteredClass, IsRegisteredGroup, IsRegisteredNotification}
use Rattle.schema_records.specs.RegisteredParts.{NamesRegistered}
use Rattle.registered_laws.specs.RegisteredKinds.{AreRegisteredKinds, is_always_registered}
use Rattle.registered_laws.proofs.MemberLaws.{binding_registered, class_registered, group_registered}
use Rattle.registered_laws.proofs.MemberLaws.{notification_registered}
use Rattle.registered_laws.proofs.MentionLaws.{AreReferred}
use Rattle.registered_laws.proofs.PackageLaws.{package_registered}
use Rattle.registered_laws.proofs.TableLaws.{StandsIn, each_linked, head_identifier}

-- what a template names stands in its document
referred : (parts : PartTerms) (kind : TemplateKind) (x : Placed) → StandsIn kind (templates parts) x →
    AreReferred parts x.document (template_mentions x.template)
referred parts kind x stands y names = by_template stands.stands names

-- what is linked of a template of a kind that is always registered is
itself : {L : Type 0} (parts : PartTerms) (head : L → LinkedHead) (is : ℕ → BodyTerm → L → Type 0)
    (kind : TemplateKind) (x : Placed) (y : L) → AreRegisteredKinds parts → is_always_registered kind ≡ true →
    StandsIn kind (templates parts) x → IsTemplate parts head is x y → HasIdentifier (head y)
itself parts head is kind x y kinds always stands told =
    let own = kinds x stands.stands (ap is_always_registered stands.of_kind ∙ always) in
    head_identifier parts head is x y own.0 own.1 told

module _ (parts : PartTerms) (linked : Linked) (are : AreLinkedParts parts linked)
    (kinds : AreRegisteredKinds parts) where
  classes_registered : All (IsRegisteredClass linked) linked.classes.items
  classes_registered = each_linked parts (λ x. x.head) (IsClassOf parts) (IsRegisteredClass linked) ClassKind
      (templates parts) linked.classes.items
      (λ x y stands told. class_registered parts linked are.tables kinds x.document (body_of x.template) y
      (itself parts (λ z. z.head) (IsClassOf parts) ClassKind x y kinds refl stands told) told.1) are.tables.classes

  actions_registered : All (λ (x : LinkedAction). HasIdentifier x.head) linked.actions.items
  actions_registered = each_linked parts (λ x. x.head) (IsActionOf parts)
      (λ (x : LinkedAction). HasIdentifier x.head) ActionKind (templates parts) linked.actions.items
      (λ x y stands told. itself parts (λ z. z.head) (IsActionOf parts) ActionKind x y kinds refl stands told)
      are.tables.actions

  module _ (faultless : AreFaultless parts) where
    packages_registered : All (NamesRegistered linked) linked.packages.items
    packages_registered = each_linked parts (λ x. x.head) (IsPackageOf parts) (NamesRegistered linked) PackageKind
        (templates parts) linked.packages.items
        (λ x y stands told. package_registered parts linked are.tables faultless kinds x.document (body_of x.template) y
        (referred parts PackageKind x stands) told.1) are.tables.packages

    groups_registered : All (IsRegisteredGroup linked) linked.groups.items
    groups_registered = each_linked parts (λ x. x.head) (IsGroupOf parts) (IsRegisteredGroup linked) GroupKind
        (templates parts) linked.groups.items
        (λ x y stands told. group_registered parts linked are.tables faultless x.document (body_of x.template) y
        (referred parts GroupKind x stands)
        (itself parts (λ z. z.head) (IsGroupOf parts) GroupKind x y kinds refl stands told) told.1) are.tables.groups

    bindings_registered : All (IsRegisteredBinding linked) linked.bindings.items
    bindings_registered = each_linked parts (λ x. x.head) (IsBindingOf parts) (IsRegisteredBinding linked) BindingKind
        (templates parts) linked.bindings.items
        (λ x y stands told. binding_registered parts linked are.tables faultless x.document kinds (body_of x.template) y
        (referred parts BindingKind x stands)
        (itself parts (λ z. z.head) (IsBindingOf parts) BindingKind x y kinds refl stands told) told.1)
        are.tables.bindings

    notifications_registered : All (IsRegisteredNotification linked) linked.notifications.items
    notifications_registered = each_linked parts (λ x. x.head) (IsNotificationOf parts)
        (IsRegisteredNotification linked) NotificationKind (templates parts) linked.notifications.items
        (λ x y stands told. notification_registered parts linked are.tables faultless x.document (body_of x.template) y
        (referred parts NotificationKind x stands)
        (itself parts (λ z. z.head) (IsNotificationOf parts) NotificationKind x y kinds refl stands told) told.1)
        are.tables.notifications

    pub parts_registered : AreRegisteredParts linked
    parts_registered = record {
      classes = classes_registered;
      packages = packages_registered;
      groups = groups_registered;
      bindings = bindings_registered;
      actions = actions_registered;
      notifications = notifications_registered;
    }
