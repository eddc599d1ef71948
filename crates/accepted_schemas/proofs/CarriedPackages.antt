-- CarriedPackages: the records of packages and classes are those of alike ones (X.722, sections 8.3 and 8.4).
use Rattle.std.specs.Prelude.{◌≡◌, ℕ, [], ◌∷◌, List, None, Some, Option, refl}
use Rattle.std.proofs.Common.{◌∙◌, ap, sym}
use Rattle.term_values.specs.Syntaxes.{TypeSyntax}
use Rattle.term_model.specs.declared.packages.GroupUse.{GroupUse}
use Rattle.term_model.specs.declared.packages.PackageRec.{PackageRec}
use Rattle.term_model.specs.declared.packages.Property.{Property}
use Rattle.term_model.specs.declared.schema.ClassRec.{ClassRec}
use Rattle.token_grammar.specs.declared.token.Token.{Token}
use Rattle.asn1_names.specs.ModuleTerms.{ModuleTerm}
use Rattle.gdmo_linking.proofs.StepLaws.{each_at}
use Rattle.linked_parts.specs.declared.linked.Linked.{Linked}
use Rattle.linked_parts.specs.declared.linked.LinkedClass.{LinkedClass}
use Rattle.linked_parts.specs.declared.linked.LinkedGroupUse.{LinkedGroupUse}
use Rattle.linked_parts.specs.declared.linked.LinkedName.{LinkedName}
use Rattle.linked_parts.specs.declared.linked.LinkedPackage.{LinkedPackage}
use Rattle.linked_parts.specs.declared.linked.LinkedUse.{LinkedUse}
use Rattle.linked_types.specs.PartIdentifiers.{AreEach}
use Rattle.schema_records.specs.ClassRecords.{ArePermittedTypes, IsClass, IsGroupUse, IsPackage, IsPackageAt}
use Rattle.schema_records.specs.ClassRecords.{IsProperty}
use Rattle.accepted_laws.specs.AlikeParts.{AreAlike, ClassesAlike, GroupUsesAlike, PackagesAlike}
use Rattle.accepted_laws.proofs.AlikeClasses.{same_type}
use Rattle.accepted_schemas.proofs.CarriedNames.{action_ids, attribute_id, attribute_ids, class_ids, each_again}
use Rattle.accepted_schemas.proofs.CarriedNames.{each_carried, group_id, notification_ids, optional_value}
use Rattle.accepted_schemas.proofs.CarriedNames.{registered_alike}

module _ (ms : List ModuleTerm) {linked other : Linked} (alike : AreAlike linked other) where
  permitted_alike : (name : Option LinkedName) (types : List TypeSyntax) → ArePermittedTypes ms linked name types →
      ArePermittedTypes ms other name types
  permitted_alike None [] are = tt
  permitted_alike None (x ∷ xs) are = absurd are
  permitted_alike (Some name) [] are = absurd are
  permitted_alike (Some name) (x ∷ []) are = same_type name alike are
  permitted_alike (Some name) (x ∷ y ∷ xs) are = absurd are

  property_alike : (stated : LinkedUse) (x : Property) → IsProperty ms linked stated x → IsProperty ms other stated x
  property_alike stated x is = record {
    is_attribute = attribute_id alike stated.attribute stated.attribute x.attribute refl is.is_attribute;
    gets = is.gets;
    replaces = is.replaces;
    adds = is.adds;
    removes = is.removes;
    sets_default = is.sets_default;
    is_default = optional_value ms alike stated.default_value x.default is.is_default;
    is_initial = optional_value ms alike stated.initial_value x.initial is.is_initial;
    permits = permitted_alike stated.permitted x.permitted is.permits;
    requires_types = is.requires_types;
  }

  group_use_alike : (stated its_stated : LinkedGroupUse) (x : GroupUse) → GroupUsesAlike stated its_stated →
      IsGroupUse linked stated x → IsGroupUse other its_stated x
  group_use_alike stated its_stated x same is = record {
    is_group = group_id alike stated.group its_stated.group x.group same.group is.is_group;
    are_added = attribute_ids alike stated.added.items its_stated.added.items x.added same.added is.are_added;
  }

  package_alike : (part its_part : LinkedPackage) (x : PackageRec) → PackagesAlike part its_part →
      IsPackage ms linked part x → IsPackage ms other its_part x
  package_alike part its_part x same is = record {
    is_id = sym same.head.identifier ∙ is.is_id;
    is_label = ap (λ (t : Token). t.text) (sym same.head.label) ∙ is.is_label;
    attributes_are = each_again (IsProperty ms linked) (IsProperty ms other) property_alike part.attributes.items
        its_part.attributes.items x.attributes same.attributes is.attributes_are;
    groups_are = each_carried GroupUsesAlike (IsGroupUse linked) (IsGroupUse other) group_use_alike part.groups.items
        its_part.groups.items x.groups same.groups is.groups_are;
    actions_are = action_ids alike part.actions.items its_part.actions.items x.actions same.actions is.actions_are;
    notifications_are = notification_ids alike part.notifications.items its_part.notifications.items x.notifications
        same.notifications is.notifications_are;
  }

  package_at_alike : (k : ℕ) (x : PackageRec) → IsPackageAt ms linked k x → IsPackageAt ms other k x
  package_at_alike k x is =
      let found = each_at PackagesAlike linked.packages.items other.packages.items k is.0 alike.packages is.1 in
      (found.0, found.1, package_alike is.0 found.0 x found.2 is.2)

  packages_at_alike : (js ks : List ℕ) (xs : List PackageRec) → js ≡ ks → AreEach (IsPackageAt ms linked) js xs →
      AreEach (IsPackageAt ms other) ks xs
  packages_at_alike = each_again (IsPackageAt ms linked) (IsPackageAt ms other) package_at_alike

  pub class_alike : (part its_part : LinkedClass) (x : ClassRec) → ClassesAlike part its_part →
      IsClass ms linked part x → IsClass ms other its_part x
  class_alike part its_part x same is = record {
    registered = registered_alike same.head is.registered;
    superclasses_are = class_ids alike part.superclasses.items its_part.superclasses.items x.superclasses
        same.superclasses is.superclasses_are;
    mandatory_are = packages_at_alike part.mandatory.items its_part.mandatory.items x.mandatory same.mandatory
        is.mandatory_are;
    conditional_are = packages_at_alike part.conditional.items its_part.conditional.items x.conditional
        same.conditional is.conditional_are;
  }
