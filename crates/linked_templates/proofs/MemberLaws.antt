-- MemberLaws: name bindings, attributes, groups, actions and notifications with the targets of their references (X.722,
-- sections 8.6 to 8.11).
use Rattle.std.specs.Prelude.{◌≡◌, ℕ, List, [], ◌∷◌, Option, is_some}
use Rattle.std.proofs.Common.{ap, sym, ◌∙◌}
use Rattle.std.proofs.Math.Path.{subst}
use Rattle.linked_parts.specs.declared.linked.LinkedAction.{LinkedAction}
use Rattle.linked_parts.specs.declared.linked.LinkedAttribute.{LinkedAttribute}
use Rattle.linked_parts.specs.declared.linked.LinkedBinding.{LinkedBinding}
use Rattle.linked_parts.specs.declared.linked.LinkedGroup.{LinkedGroup}
use Rattle.linked_parts.specs.declared.linked.LinkedNotification.{LinkedNotification}
use Rattle.gdmo_classes.specs.declared.name_binding.NameBindingTemplate.{NameBindingTemplate}
use Rattle.gdmo_members.specs.declared.action.ActionTemplate.{ActionTemplate}
use Rattle.gdmo_members.specs.declared.attribute.AttributeTemplate.{AttributeTemplate}
use Rattle.gdmo_members.specs.declared.group.GroupTemplate.{GroupTemplate}
use Rattle.gdmo_members.specs.declared.notification.NotificationTemplate.{NotificationTemplate}
use Rattle.gdmo_linking.specs.InRoles.{only}
use Rattle.linked_templates.specs.LinkedMembers.{AreFields, IsActionOf, IsAttributeOf, IsBindingOf, IsGroupOf, IsLife}
use Rattle.linked_templates.specs.LinkedMembers.{IsNotificationOf, IsSyntax}
use Rattle.gdmo_linking.specs.LinkedNames.{IsOptionalName}
use Rattle.gdmo_linking.specs.LinkedTables.{Links}
use Rattle.gdmo_linking.specs.Linkers.{IsNamed, IsOwn, LinksMention}
use Rattle.gdmo_linking.specs.declared.linking.Linker.{Linker}
use Rattle.gdmo_linking.proofs.StepLaws.{all_left, all_right}
use Rattle.gdmo_names.specs.FoundViews.{body_term}
use Rattle.gdmo_names.specs.TypeMeaning.{name_list, type_names}
use Rattle.gdmo_names.specs.declared.found.Found.{Found}
use Rattle.linked_templates.proofs.BodyLaws.{group_elements, in_body, notification_fields}
use Rattle.gdmo_linking.proofs.RoleLaws.{are_linked}
use Rattle.gdmo_names.specs.ClassViews.{binding_term, class_reference, creation_term, deletion_term}
use Rattle.gdmo_names.specs.InStep.{AreAll, AreEach}
use Rattle.gdmo_names.specs.MemberViews.{action_term, attribute_reference, attribute_syntax_term, attribute_term}
use Rattle.gdmo_names.specs.MemberViews.{behaviour_terms, clause_terms, clause_tokens, group_term, information_fields}
use Rattle.gdmo_names.specs.MemberViews.{information_type, notification_term, parameter_reference}
use Rattle.gdmo_names.specs.Mentions.{Role, Mention, body_mentions, field_mentions, mentions}
use Rattle.gdmo_names.specs.Mentions.Role.{FieldAttribute, GroupElement, NamingAttribute}
use Rattle.gdmo_names.specs.Mentions.Role.{SubordinateClass, SuperiorClass}
use Rattle.gdmo_names.specs.PartTerms.{PartTerms, body_of}
use Rattle.gdmo_names.specs.TemplateTerms.{BodyTerm}

-- ---- name bindings

pub binding_linked : (parts : PartTerms) (document : ℕ) (body : BodyTerm) (t : NameBindingTemplate) (x : LinkedBinding) →
    body ≡ body_of (binding_term t) →
    Links parts document SubordinateClass (class_reference t.subordinate.class) x.subordinate →
    is_some t.subordinate.subclasses ≡ x.subordinate_subclasses →
    Links parts document SuperiorClass (class_reference t.superior.class) x.superior →
    is_some t.superior.subclasses ≡ x.superior_subclasses →
    Links parts document NamingAttribute (attribute_reference t.attribute) x.attribute →
    IsLife (creation_term t.create) x.create → IsLife (deletion_term t.delete) x.delete →
    IsBindingOf parts document body x
binding_linked parts document body t x is below below_all above above_all by made gone =
    subst (λ own. IsBindingOf parts document own x) (sym is) (record {
      is_subordinate = below;
      subclasses_below = below_all;
      is_superior = above;
      subclasses_above = above_all;
      is_attribute = by;
      is_create = made;
      is_delete = gone;
    })

-- what is named once in a role, where the clauses are these
pub once_in_body : (role : Role) (body own : BodyTerm) (x : Mention) → body ≡ own →
    only role (body_mentions own) ≡ x ∷ [] → only role (body_mentions body) ≡ x ∷ []
once_in_body role body own x is named = ap (λ b. only role (body_mentions b)) is ∙ named

-- ---- attributes and groups

pub attribute_linked : (parts : PartTerms) (document : ℕ) (body : BodyTerm) (t : AttributeTemplate)
    (x : LinkedAttribute) → body ≡ body_of (attribute_term t) →
    IsSyntax parts document (attribute_syntax_term t.syntax) x.syntax → x.rules.items ≡ clause_tokens t.rules →
    IsAttributeOf parts document body x
attribute_linked parts document body t x is syntax rules =
    subst (λ own. IsAttributeOf parts document own x) (sym is) (syntax, sym rules)

pub group_linked : (parts : PartTerms) (document : ℕ) (body : BodyTerm) (t : GroupTemplate) (x : LinkedGroup) →
    body ≡ body_of (group_term t) →
    AreEach (LinksMention parts document) (only GroupElement (body_mentions body)) x.elements.items →
    is_some t.fixed ≡ x.fixed → IsGroupOf parts document body x
group_linked parts document body t x is each fixed =
    let elements = clause_terms attribute_reference t.elements in
    subst (λ own. IsGroupOf parts document own x) (sym is) (
      are_linked parts document GroupElement elements x.elements.items
          (in_body parts document GroupElement body (body_of (group_term t)) (mentions GroupElement elements) x.elements.items
          is (group_elements elements (is_some t.fixed)) each),
      fixed,
    )

-- ---- actions and notifications

pub action_linked : (parts : PartTerms) (document : ℕ) (body : BodyTerm) (t : ActionTemplate) (x : LinkedAction) →
    body ≡ body_of (action_term t) → is_some t.mode ≡ x.confirmed → IsOptionalName parts t.information x.information →
    IsOptionalName parts t.reply x.reply → IsActionOf parts document body x
action_linked parts document body t x is confirmed information reply =
    subst (λ own. IsActionOf parts document own x) (sym is)
    (record { is_confirmed = confirmed; is_information = information; is_reply = reply })

pub notification_linked : (parts : PartTerms) (document : ℕ) (body : BodyTerm) (t : NotificationTemplate)
    (x : LinkedNotification) → body ≡ body_of (notification_term t) →
    IsOptionalName parts (information_type t.information) x.information →
    AreFields parts document (information_fields t.information) x.fields.items →
    IsOptionalName parts t.reply x.reply → IsNotificationOf parts document body x
notification_linked parts document body t x is information fields reply =
    subst (λ own. IsNotificationOf parts document own x) (sym is)
    (record { is_information = information; fields_are = fields; is_reply = reply })

pub notification_named : (parts : PartTerms) (document : ℕ) (body : BodyTerm) (t : NotificationTemplate) (ks : List ℕ) →
    body ≡ body_of (notification_term t) →
    AreEach (LinksMention parts document) (only FieldAttribute (body_mentions body)) ks →
    AreEach (LinksMention parts document) (field_mentions (information_fields t.information)) ks
notification_named parts document body t ks is each =
    in_body parts document FieldAttribute body (body_of (notification_term t))
    (field_mentions (information_fields t.information)) ks is
    (notification_fields (behaviour_terms t.behaviour) (clause_terms parameter_reference t.parameters)
    (information_type t.information) (information_fields t.information) t.reply) each

-- an action whose types mean something, where nothing is missing
pub action_is : (parts : PartTerms) (linker : Linker) (own : Found) (targets : List (Option ℕ)) (t : ActionTemplate)
    (x : LinkedAction) → IsOwn parts linker own targets → body_term own.body ≡ body_of (action_term t) →
    (AreAll (IsNamed parts) (name_list t.information) → AreAll (IsNamed parts) (name_list t.reply) →
    IsActionOf parts own.document (body_term own.body) x) → IsActionOf parts own.document (body_term own.body) x
action_is parts linker own targets t x is body linked =
    let types = subst (λ b. AreAll (IsNamed parts) (type_names b)) body is.types in
    linked (all_left (IsNamed parts) (name_list t.information) (name_list t.reply) types)
    (all_right (IsNamed parts) (name_list t.information) (name_list t.reply) types)
