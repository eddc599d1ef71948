-- MemberLaws: what classes, attribute groups, name bindings and notifications name is there, and registered (X.722,
-- sections 8.3, 8.6, 8.8 and 8.11).
use Rattle.std.specs.Prelude.{◌++◌, ◌∷◌, [], ℕ, List, All, refl}
use Rattle.std.proofs.lemmas.List.Elements.{All-cons, All-nil}
use Rattle.gdmo_names.specs.DocumentTemplates.{templates}
use Rattle.gdmo_names.specs.FirstLabelFault.{AreFaultless}
use Rattle.gdmo_names.specs.Mentions.{body_mentions, field_mentions, life_mentions, mention, mentions}
use Rattle.gdmo_names.specs.Mentions.Role.{ConditionalPackage, FieldAttribute, GroupElement, MandatoryPackage}
use Rattle.gdmo_names.specs.Mentions.Role.{NamingAttribute, OfBehaviour, OfParameter, SubordinateClass, Superclass}
use Rattle.gdmo_names.specs.Mentions.Role.{SuperiorClass}
use Rattle.gdmo_names.specs.PartTerms.{PartTerms}
use Rattle.gdmo_names.specs.TemplateTerms.{BodyTerm, FieldTerms}
use Rattle.gdmo_names.specs.TemplateTerms.BodyTerm.{ActionBody, AttributeBody, BehaviourBody, BindingBody, ClassBody}
use Rattle.gdmo_names.specs.TemplateTerms.BodyTerm.{GroupBody, NotificationBody, PackageBody, ParameterBody}
use Rattle.gdmo_names.specs.TemplateTerms.FieldTerms.{Field, NoFields}
use Rattle.linked_parts.specs.declared.linked.Linked.{Linked}
use Rattle.linked_parts.specs.declared.linked.LinkedBinding.{LinkedBinding}
use Rattle.linked_parts.specs.declared.linked.LinkedClass.{LinkedClass}
use Rattle.linked_parts.specs.declared.linked.LinkedField.{LinkedField}
use Rattle.linked_parts.specs.declared.linked.LinkedGroup.{LinkedGroup}
use Rattle.linked_parts.specs.declared.linked.LinkedNotification.{LinkedNotification}
use Rattle.linked_templates.specs.LinkedMembers.{AreFields, IsBindingOf, IsGroupOf, IsNotificationOf}
use Rattle.linked_templates.specs.LinkedTemplates.{IsClassOf}
use Rattle.linked_templates.specs.TemplateTables.{AreLinkedTemplates}
use Rattle.schema_records.specs.RegisteredParts.{HasIdentifier, IsAttributePlace, IsClassPlace, IsPackagePlace}
use Rattle.schema_records.specs.RegisteredParts.{IsRegisteredBinding, IsRegisteredClass, IsRegisteredGroup}
use Rattle.schema_records.specs.RegisteredParts.{IsRegisteredNotification}
use Rattle.registered_laws.specs.RegisteredKinds.{AreRegisteredKinds}
use Rattle.registered_laws.proofs.MentionLaws.{AreReferred, all_linked, referred_rest, referred_right}
use Rattle.registered_laws.proofs.PartPlaces.{attribute_place, class_place, package_place}
use Rattle.registered_laws.proofs.TableLaws.{first_of, later_of}

module _ (parts : PartTerms) (linked : Linked) (tables : AreLinkedTemplates parts (templates parts) linked) where
  pub class_registered : AreRegisteredKinds parts → (document : ℕ) (body : BodyTerm) (x : LinkedClass) →
      HasIdentifier x.head → IsClassOf parts document body x → IsRegisteredClass linked x
  class_registered kinds document (ClassBody superclasses mandatory conditional) x own is = record {
    itself = own;
    superclasses = all_linked (IsClassPlace linked) parts document Superclass
        (λ reference k names links. class_place parts linked tables kinds refl links) is.superclasses_are;
    mandatory = all_linked (IsPackagePlace linked) parts document MandatoryPackage
        (λ reference k names links. package_place parts linked tables refl links) is.mandatory_are;
    conditional = all_linked (IsPackagePlace linked) parts document ConditionalPackage
        (λ reference k names links. package_place parts linked tables refl links) is.conditional_are;
  }
  class_registered kinds document (PackageBody _ _ _ _ _) x own is = absurd is
  class_registered kinds document (ParameterBody _ _) x own is = absurd is
  class_registered kinds document (BindingBody _ _ _ _ _ _ _ _) x own is = absurd is
  class_registered kinds document (AttributeBody _ _ _ _) x own is = absurd is
  class_registered kinds document (GroupBody _ _) x own is = absurd is
  class_registered kinds document BehaviourBody x own is = absurd is
  class_registered kinds document (ActionBody _ _ _ _ _) x own is = absurd is
  class_registered kinds document (NotificationBody _ _ _ _ _) x own is = absurd is

  module _ (faultless : AreFaultless parts) (document : ℕ) where
    pub group_registered : (body : BodyTerm) (x : LinkedGroup) → AreReferred parts document (body_mentions body) →
        HasIdentifier x.head → IsGroupOf parts document body x → IsRegisteredGroup linked x
    group_registered (GroupBody elements fixed) x all own is = record {
      itself = own;
      elements = all_linked (IsAttributePlace linked) parts document GroupElement
          (λ reference k names links. attribute_place parts linked tables faultless refl refl
          (all (mention GroupElement reference) names) links) is.0;
    }
    group_registered (ClassBody _ _ _) x all own is = absurd is
    group_registered (PackageBody _ _ _ _ _) x all own is = absurd is
    group_registered (ParameterBody _ _) x all own is = absurd is
    group_registered (BindingBody _ _ _ _ _ _ _ _) x all own is = absurd is
    group_registered (AttributeBody _ _ _ _) x all own is = absurd is
    group_registered BehaviourBody x all own is = absurd is
    group_registered (ActionBody _ _ _ _ _) x all own is = absurd is
    group_registered (NotificationBody _ _ _ _ _) x all own is = absurd is

    pub binding_registered : AreRegisteredKinds parts → (body : BodyTerm) (x : LinkedBinding) →
        AreReferred parts document (body_mentions body) → HasIdentifier x.head → IsBindingOf parts document body x →
        IsRegisteredBinding linked x
    binding_registered kinds (BindingBody below below_all above above_all attribute behaviours create delete) x all own
        is =
        let others = mentions OfBehaviour behaviours ++ (life_mentions create ++ life_mentions delete) in
        let naming = mention NamingAttribute attribute in
        record {
          itself = own;
          subordinate = class_place parts linked tables kinds refl is.is_subordinate;
          superior = class_place parts linked tables kinds refl is.is_superior;
          attribute = attribute_place parts linked tables faultless refl refl (all naming
              (later_of (mention SubordinateClass below) naming (mention SuperiorClass above ∷ naming ∷ others)
              (later_of (mention SuperiorClass above) naming (naming ∷ others) (first_of naming others))))
              is.is_attribute;
        }
    binding_registered kinds (ClassBody _ _ _) x all own is = absurd is
    binding_registered kinds (PackageBody _ _ _ _ _) x all own is = absurd is
    binding_registered kinds (ParameterBody _ _) x all own is = absurd is
    binding_registered kinds (AttributeBody _ _ _ _) x all own is = absurd is
    binding_registered kinds (GroupBody _ _) x all own is = absurd is
    binding_registered kinds BehaviourBody x all own is = absurd is
    binding_registered kinds (ActionBody _ _ _ _ _) x all own is = absurd is
    binding_registered kinds (NotificationBody _ _ _ _ _) x all own is = absurd is

    -- ---- notifications

    IsAttributeField : LinkedField → Type 0
    IsAttributeField field = IsAttributePlace linked field.attribute

    fields_registered : (fields : FieldTerms) (xs : List LinkedField) →
        AreReferred parts document (field_mentions fields) → AreFields parts document fields xs →
        All IsAttributeField xs
    unfolding IsAttributeField
    fields_registered NoFields [] all are = All-nil IsAttributeField
    fields_registered NoFields (x ∷ xs) all are = absurd are
    fields_registered (Field name attribute rest) [] all are = absurd are
    fields_registered (Field name attribute rest) (x ∷ xs) all are =
        let one = mention FieldAttribute attribute in
        All-cons IsAttributeField x xs (attribute_place parts linked tables faultless refl refl
        (all one (first_of one (field_mentions rest))) are.1)
        (fields_registered rest xs (referred_rest parts document one (field_mentions rest) all) are.2)

    pub notification_registered : (body : BodyTerm) (x : LinkedNotification) →
        AreReferred parts document (body_mentions body) → HasIdentifier x.head →
        IsNotificationOf parts document body x → IsRegisteredNotification linked x
    unfolding IsAttributeField
    notification_registered (NotificationBody behaviours parameters information fields reply) x all own is = record {
      itself = own;
      fields = fields_registered fields x.fields.items
          (referred_right parts document (mentions OfParameter parameters) (field_mentions fields)
          (referred_right parts document (mentions OfBehaviour behaviours)
          (mentions OfParameter parameters ++ field_mentions fields) all)) is.fields_are;
    }
    notification_registered (ClassBody _ _ _) x all own is = absurd is
    notification_registered (PackageBody _ _ _ _ _) x all own is = absurd is
    notification_registered (ParameterBody _ _) x all own is = absurd is
    notification_registered (BindingBody _ _ _ _ _ _ _ _) x all own is = absurd is
    notification_registered (AttributeBody _ _ _ _) x all own is = absurd is
    notification_registered (GroupBody _ _) x all own is = absurd is
    notification_registered BehaviourBody x all own is = absurd is
    notification_registered (ActionBody _ _ _ _ _) x all own is = absurd is
