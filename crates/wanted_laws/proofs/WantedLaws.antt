-- WantedLaws: in linked parts of documents without a fault of labels each name of a type means a type, each name of a
-- value means a value, and each attribute from which one derives is there (X.722, section 8; docs/PROFILE.md, section
-- 12).
use Rattle.std.specs.Prelude.{All, Contains, refl}
use Rattle.gdmo_names.specs.DocumentTemplates.{templates}
use Rattle.gdmo_names.specs.FirstLabelFault.{AreFaultless}
use Rattle.gdmo_names.specs.PartTerms.{Placed, PartTerms, body_of, module_terms_of}
use Rattle.gdmo_names.specs.TemplateTerms.TemplateKind.{ActionKind, AttributeKind, NotificationKind, PackageKind}
use Rattle.gdmo_names.specs.TypeMeaning.{type_names, value_names}
use Rattle.linked_parts.specs.declared.linked.Linked.{Linked}
use Rattle.linked_parts.specs.declared.linked.LinkedAction.{LinkedAction}
use Rattle.linked_parts.specs.declared.linked.LinkedAttribute.{LinkedAttribute}
use Rattle.linked_parts.specs.declared.linked.LinkedNotification.{LinkedNotification}
use Rattle.linked_parts.specs.declared.linked.LinkedPackage.{LinkedPackage}
use Rattle.linked_packages.specs.LinkedPackages.{IsPackageOf}
use Rattle.linked_templates.specs.LinkedMembers.{IsActionOf, IsAttributeOf, IsNotificationOf}
use Rattle.linked_documents.specs.LinkedParts.{AreLinkedParts}
use Rattle.meant_names.specs.WantedMeanings.{AreWanted, AreWantedTypes, IsWantedSyntax, IsWantedUse}
use Rattle.wanted_laws.proofs.SortLaws.{AreTypes, AreValues}
use Rattle.wanted_laws.proofs.TableLaws.{each_linked}
use Rattle.wanted_laws.proofs.TemplateLaws.{action_wanted, attribute_wanted, notification_wanted, package_wanted}

module _ (parts : PartTerms) (linked : Linked) (are : AreLinkedParts parts linked)
    (faultless : AreFaultless parts) where
  types_of : (x : Placed) → Contains (templates parts) x → AreTypes parts x.document (type_names (body_of x.template))
  types_of x stands name names = record { by = x; stands = stands; is_in = refl; names = names }

  values_of : (x : Placed) → Contains (templates parts) x →
      AreValues parts x.document (value_names (body_of x.template))
  values_of x stands name names = record { by = x; stands = stands; is_in = refl; names = names }

  pub parts_wanted : AreWanted (module_terms_of parts) linked
  parts_wanted = record {
    of_attributes = each_linked parts (λ z. z.head) (IsAttributeOf parts) AttributeKind linked.attributes.items
        are.tables.attributes (λ (y : LinkedAttribute). IsWantedSyntax (module_terms_of parts) linked y.syntax)
        (λ x y stands told. attribute_wanted parts faultless x.document linked are.tables (body_of x.template) y
        (types_of x stands) told.1);
    of_actions = each_linked parts (λ z. z.head) (IsActionOf parts) ActionKind linked.actions.items
        are.tables.actions (λ (y : LinkedAction). AreWantedTypes (module_terms_of parts) y.information y.reply)
        (λ x y stands told. action_wanted parts faultless x.document (body_of x.template) y (types_of x stands)
        told.1);
    of_notifications = each_linked parts (λ z. z.head) (IsNotificationOf parts) NotificationKind
        linked.notifications.items are.tables.notifications
        (λ (y : LinkedNotification). AreWantedTypes (module_terms_of parts) y.information y.reply)
        (λ x y stands told. notification_wanted parts faultless x.document (body_of x.template) y
        (types_of x stands) told.1);
    of_packages = each_linked parts (λ z. z.head) (IsPackageOf parts) PackageKind linked.packages.items
        are.tables.packages (λ (y : LinkedPackage). All (IsWantedUse (module_terms_of parts)) y.attributes.items)
        (λ x y stands told. package_wanted parts faultless x.document (body_of x.template) y (types_of x stands)
        (values_of x stands) told.1);
  }
