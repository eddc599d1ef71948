-- ClassKinds: all templates of documents, those in line too, are those of texts, and registered where their kind always
-- is (X.722, section 8).
use Rattle.std.proofs.Common.{ℕ, List, [], ◌∷◌, Option, None, Some, refl, sym, map, subst}
use Rattle.std.specs.Prelude.{All, Contains, flat_map}
use Rattle.std.specs.declared.alloc.Global.{Global}
use Rattle.std.specs.declared.vec.Vec.{Vec}
use Rattle.std.proofs.lemmas.Grind.{flat_map-append}
use Rattle.std.proofs.lemmas.List.Elements.{All-append, All-cons, All-contains, All-head, All-nil, All-tail}
use Rattle.gdmo_members.specs.declared.attribute.AttributeReference.{AttributeReference}
use Rattle.gdmo_members.specs.declared.member.MemberTemplate.{MemberTemplate}
use Rattle.gdmo_members.specs.declared.parameter.ParameterReference.{ParameterReference}
use Rattle.gdmo_classes.specs.declared.attribute_use.AttributeUse.{AttributeUse}
use Rattle.gdmo_classes.specs.declared.class.ClassReference.{ClassReference}
use Rattle.gdmo_classes.specs.declared.class.ClassReference.TheVariants.{Label as CLabel, Template' as CTemplate}
use Rattle.gdmo_classes.specs.declared.class.ConditionalPackage.{ConditionalPackage}
use Rattle.gdmo_classes.specs.declared.class.ObjectClassTemplate.{ObjectClassTemplate, Row_of-ClassReference}
use Rattle.gdmo_classes.specs.declared.class.ObjectClassTemplate.{end_of-ClassReference, more_of-ClassReference}
use Rattle.gdmo_classes.specs.declared.class.ObjectClassTemplate.{Held-ObjectClassTemplate-superclasses, None', Some'}
use Rattle.gdmo_classes.specs.declared.creation.Creation.{Creation}
use Rattle.gdmo_classes.specs.declared.creation.Deletion.{Deletion}
use Rattle.gdmo_classes.specs.declared.member_use.ActionUse.{ActionUse}
use Rattle.gdmo_classes.specs.declared.member_use.GroupUse.{GroupUse}
use Rattle.gdmo_classes.specs.declared.member_use.NotificationUse.{NotificationUse}
use Rattle.gdmo_classes.specs.declared.name_binding.NameBindingTemplate.{NameBindingTemplate}
use Rattle.gdmo_classes.specs.declared.package.PackageReference.{PackageReference}
use Rattle.gdmo_classes.specs.declared.package.PackageReference.TheVariants.{Label as PLabel, Template as PTemplate}
use Rattle.gdmo_classes.specs.declared.package.PackageTemplate.{PackageTemplate}
use Rattle.gdmo_classes.specs.declared.properties.PropertyValue.{PropertyValue}
use Rattle.gdmo_classes.specs.declared.properties.PropertyValue.TheVariants.{Value, Rule}
use Rattle.gdmo_classes.specs.declared.references.ActionReference.{ActionReference}
use Rattle.gdmo_classes.specs.declared.references.ActionReference.TheVariants.{Label as ALabel, Template as ATemplate}
use Rattle.gdmo_classes.specs.declared.references.GroupReference.{GroupReference}
use Rattle.gdmo_classes.specs.declared.references.GroupReference.TheVariants.{Label as GLabel, Template as GTemplate}
use Rattle.gdmo_classes.specs.declared.references.NotificationReference.{NotificationReference}
use Rattle.gdmo_classes.specs.declared.references.NotificationReference.TheVariants.{Label as NLabel}
use Rattle.gdmo_classes.specs.declared.references.NotificationReference.TheVariants.{Template as NTemplate}
use Rattle.gdmo_classes.specs.declared.template.ClassTemplate.{ClassTemplate}
use Rattle.gdmo_classes.specs.declared.template.ClassTemplate.TheVariants.{Class, Package, NameBinding}
use Rattle.gdmo_names.specs.ClassViews.{action_reference, binding_term, class_reference, class_term}
use Rattle.gdmo_names.specs.ClassViews.{conditional_reference, creation_term, deletion_term, group_reference}
use Rattle.gdmo_names.specs.ClassViews.{held_terms, notification_reference, package_reference, package_term}
use Rattle.gdmo_names.specs.ClassViews.{row_terms, rows_of, stated_term, superclass_terms, use_terms, uses_of}
use Rattle.gdmo_names.specs.DocumentTemplates.{in_life, in_reference, in_references, in_rows, in_stated, in_template}
use Rattle.gdmo_names.specs.DocumentTemplates.{in_uses, placed_templates, templates}
use Rattle.gdmo_names.specs.MemberViews.{attribute_reference, parameter_reference, reference_terms}
use Rattle.gdmo_names.specs.PartTerms.{Placed}
use Rattle.gdmo_names.specs.PartViews.{class_placed, member_placed, part_terms}
use Rattle.gdmo_names.specs.TemplateTerms.{ReferenceTerm, ReferenceTerms, TemplateTerm}
use Rattle.gdmo_names.specs.declared.parsed.Parsed.{Parsed}
use Rattle.registered_laws.specs.RegisteredKinds.{AreRegisteredKinds}
use Rattle.registered_laws.proofs.MemberKinds.{AreOfKinds, IsOfText, action_kinds, behaviours_kinds, both_kinds}
use Rattle.registered_laws.proofs.MemberKinds.{clause_kinds, group_kinds, is_registered, member_kinds, no_template}
use Rattle.registered_laws.proofs.MemberKinds.{notification_kinds, one_attribute, one_behaviour, one_parameter}
use Rattle.registered_laws.proofs.MemberKinds.{other_first, own_first, row_kinds}

-- ---- packages

parameter_row : (xs : Vec ParameterReference Global) →
    AreOfKinds (in_references (reference_terms parameter_reference xs.items))
parameter_row xs = row_kinds parameter_reference one_parameter xs.items

attribute_row : (xs : Vec AttributeReference Global) →
    AreOfKinds (in_references (reference_terms attribute_reference xs.items))
attribute_row xs = row_kinds attribute_reference one_attribute xs.items

stated_kinds : (x : Option PropertyValue) → AreOfKinds (in_stated (stated_term x))
stated_kinds None = no_template
stated_kinds (Some (Value name)) = no_template
stated_kinds (Some (Rule rule)) = one_behaviour rule

uses_kinds : (xs : List AttributeUse) → AreOfKinds (in_uses (use_terms xs))
uses_kinds [] = no_template
uses_kinds (x ∷ xs) = both_kinds (one_attribute x.attribute) (both_kinds (stated_kinds x.properties.default_value)
    (both_kinds (stated_kinds x.properties.initial_value) (both_kinds (parameter_row x.parameters) (uses_kinds xs))))

clause_uses : (x : Option (Vec AttributeUse Global)) → AreOfKinds (in_uses (uses_of x))
clause_uses None = no_template
clause_uses (Some xs) = uses_kinds xs.items

-- groups, actions and notifications of a package
module _ {X : Type 0} (one : X → ReferenceTerm) (behind : X → ReferenceTerms)
    (first : (x : X) → AreOfKinds (in_reference (one x)))
    (second : (x : X) → AreOfKinds (in_references (behind x))) where
  joined_rows : (xs : List X) → AreOfKinds (in_rows (row_terms one behind xs))
  joined_rows [] = no_template
  joined_rows (x ∷ xs) = both_kinds (first x) (both_kinds (second x) (joined_rows xs))

  rows_kinds : (x : Option (Vec X Global)) → AreOfKinds (in_rows (rows_of one behind x))
  rows_kinds None = no_template
  rows_kinds (Some xs) = joined_rows xs.items

one_group : (x : GroupReference) → AreOfKinds (in_reference (group_reference x))
one_group (GLabel x) = no_template
one_group (GTemplate x) = group_kinds x

one_action : (x : ActionReference) → AreOfKinds (in_reference (action_reference x))
one_action (ALabel x) = no_template
one_action (ATemplate x) = action_kinds x

one_notification : (x : NotificationReference) → AreOfKinds (in_reference (notification_reference x))
one_notification (NLabel x) = no_template
one_notification (NTemplate x) = notification_kinds x

package_kinds : (x : PackageTemplate) → AreOfKinds (in_template (package_term x))
package_kinds x =
    let groups = rows_kinds (λ (y : GroupUse). group_reference y.group)
    (λ y. reference_terms attribute_reference y.attributes.items) (λ y. one_group y.group)
    (λ y. attribute_row y.attributes) x.groups in
    let actions = rows_kinds (λ (y : ActionUse). action_reference y.action)
    (λ y. reference_terms parameter_reference y.parameters.items) (λ y. one_action y.action)
    (λ y. parameter_row y.parameters) x.actions in
    let notifications = rows_kinds (λ (y : NotificationUse). notification_reference y.notification)
    (λ y. reference_terms parameter_reference y.parameters.items) (λ y. one_notification y.notification)
    (λ y. parameter_row y.parameters) x.notifications in
    other_first _ _ _ refl (both_kinds (behaviours_kinds x.behaviour)
    (both_kinds (clause_uses x.attributes) (both_kinds groups (both_kinds actions notifications))))

one_package : (x : PackageReference) → AreOfKinds (in_reference (package_reference x))
one_package (PLabel x) = no_template
one_package (PTemplate x) = package_kinds x

one_conditional : (x : ConditionalPackage) → AreOfKinds (in_reference (conditional_reference x))
one_conditional x = one_package x.package

-- ---- classes

mutual
  one_class : (x : ClassReference) → AreOfKinds (in_reference (class_reference x))
  one_class (CLabel x) = no_template
  one_class (CTemplate place document label superclasses packages conditional registration) = own_first _ _ _ refl
      (both_kinds (held_kinds superclasses) (both_kinds (clause_kinds package_reference one_package packages)
      (clause_kinds conditional_reference one_conditional conditional)))

  row_of_kinds : {n : _} (row : Row_of-ClassReference n) → AreOfKinds (in_references (superclass_terms row))
  row_of_kinds end_of-ClassReference = no_template
  row_of_kinds (more_of-ClassReference class others) = both_kinds (one_class class) (row_of_kinds others)

  held_kinds : (x : Held-ObjectClassTemplate-superclasses) → AreOfKinds (in_references (held_terms x))
  held_kinds None' = no_template
  held_kinds (Some' shape row) = row_of_kinds row

class_kinds : (x : ObjectClassTemplate) → AreOfKinds (in_template (class_term x))
class_kinds x = own_first _ _ _ refl (both_kinds (clause_kinds class_reference one_class x.superclasses)
    (both_kinds (clause_kinds package_reference one_package x.packages)
    (clause_kinds conditional_reference one_conditional x.conditional)))

-- ---- name bindings

creation_kinds : (x : Option Creation) → AreOfKinds (in_life (creation_term x))
creation_kinds None = no_template
creation_kinds (Some x) = parameter_row x.parameters

deletion_kinds : (x : Option Deletion) → AreOfKinds (in_life (deletion_term x))
deletion_kinds None = no_template
deletion_kinds (Some x) = parameter_row x.parameters

binding_kinds : (x : NameBindingTemplate) → AreOfKinds (in_template (binding_term x))
binding_kinds x = own_first _ _ _ refl (both_kinds (one_class x.subordinate.class)
    (both_kinds (one_class x.superior.class) (both_kinds (one_attribute x.attribute)
    (both_kinds (behaviours_kinds x.behaviour) (both_kinds (creation_kinds x.create) (deletion_kinds x.delete))))))

level_kinds : (x : ClassTemplate) → AreOfKinds (in_template (class_placed x).template)
level_kinds (Package x) = package_kinds x
level_kinds (Class x) = class_kinds x
level_kinds (NameBinding x) = binding_kinds x

-- ---- all templates of documents

IsPlacedKind : Placed → Type 0
IsPlacedKind x = IsOfText x.template

all_placed : (n : ℕ) (xs : List TemplateTerm) → All IsOfText xs →
    All IsPlacedKind (map (λ (t : TemplateTerm). record { document = n; template = t }) xs)
unfolding IsPlacedKind
all_placed n [] all = All-nil IsPlacedKind
all_placed n (x ∷ xs) all = All-cons IsPlacedKind (record { document = n; template = x })
    (map (λ (t : TemplateTerm). record { document = n; template = t }) xs) (All-head IsOfText x xs all)
    (all_placed n xs (All-tail IsOfText x xs all))

classes_placed : (xs : List ClassTemplate) → All IsPlacedKind (flat_map placed_templates (map class_placed xs))
classes_placed [] = All-nil IsPlacedKind
classes_placed (x ∷ xs) = All-append IsPlacedKind (placed_templates (class_placed x))
    (flat_map placed_templates (map class_placed xs))
    (all_placed (class_placed x).document (in_template (class_placed x).template) (level_kinds x).all)
    (classes_placed xs)

members_placed : (xs : List MemberTemplate) → All IsPlacedKind (flat_map placed_templates (map member_placed xs))
members_placed [] = All-nil IsPlacedKind
members_placed (x ∷ xs) = All-append IsPlacedKind (placed_templates (member_placed x))
    (flat_map placed_templates (map member_placed xs))
    (all_placed (member_placed x).document (in_template (member_placed x).template) (member_kinds x).all)
    (members_placed xs)

-- each template of documents is that of a text
pub all_of_texts : (parts : Parsed) (by : Placed) → Contains (templates (part_terms parts)) by → IsOfText by.template
unfolding IsPlacedKind templates
all_of_texts parts by stands =
    let classes = map class_placed parts.classes.items in
    let members = map member_placed parts.members.items in
    let both = All-append IsPlacedKind (flat_map placed_templates classes) (flat_map placed_templates members)
    (classes_placed parts.classes.items) (members_placed parts.members.items) in
    let all = subst (All IsPlacedKind) (sym (flat_map-append placed_templates classes members)) both in
    All-contains IsPlacedKind (templates (part_terms parts)) by all stands

pub registered_kinds : (parts : Parsed) → AreRegisteredKinds (part_terms parts)
registered_kinds parts by stands = is_registered by.template (all_of_texts parts by stands)
