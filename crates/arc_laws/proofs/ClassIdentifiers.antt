-- ClassIdentifiers: in a class, a package or a name binding that tokens spell the identifiers of the template and of
-- those in line have whole arcs.
use Rattle.std.proofs.Common.{◌≡◌, ℕ, List, [], ◌∷◌, Option, None, Some}
use Rattle.std.specs.List.{AllByRecursion}
use Rattle.std.specs.Prelude.{All, codes}
use Rattle.std.specs.declared.alloc.Global.{Global}
use Rattle.std.specs.declared.vec.Vec.{Vec}
use Rattle.token_grammar.specs.Form.{Form, Listed, Named, Tree, After, Empty}
use Rattle.token_grammar.specs.Kinds.{number_kind}
use Rattle.token_grammar.specs.Parts.{optional_tree, vector_tree}
use Rattle.token_grammar.specs.declared.token.Token.{Token}
use Rattle.gdmo_first_names.specs.ReadModules.{IsWhole}
use Rattle.gdmo_members.specs.Clauses.{actions, attributes, classes, clause, comma, groups, name_bindings}
use Rattle.gdmo_members.specs.Clauses.{notifications, packages, parameters, reference, reference_row}
use Rattle.gdmo_members.specs.Templates.{attribute_use, class_clauses, class_with_subclasses, conditional_package}
use Rattle.gdmo_members.specs.Templates.{name_binding_clauses, package_clauses, templates}
use Rattle.gdmo_members.specs.Trees.{clause_tree}
use Rattle.gdmo_members.specs.MemberTrees.{attribute_reference_tree, parameter_reference_tree}
use Rattle.gdmo_members.specs.declared.attribute.AttributeReference.{AttributeReference}
use Rattle.gdmo_members.specs.declared.parameter.ParameterReference.{ParameterReference}
use Rattle.gdmo_classes.specs.BindingTrees.{class_scope_tree, creations_tree, deletions_tree, name_binding_tree}
use Rattle.gdmo_classes.specs.ClassForms.{attributes_clause, class_level, conditional_clause, create_clause}
use Rattle.gdmo_classes.specs.ClassForms.{delete_clause, packages_clause, superclasses_clause}
use Rattle.gdmo_classes.specs.ClassTrees.{class_reference_tree, class_tree, conditionals_tree, held_tree, packages_tree}
use Rattle.gdmo_classes.specs.ClassTrees.{row_tree}
use Rattle.gdmo_classes.specs.PackageTrees.{conditional_tree, package_reference_tree, package_tree}
use Rattle.gdmo_classes.specs.TemplateTree.{class_template_tree}
use Rattle.gdmo_classes.specs.UseTrees.{action_reference_tree, action_use_tree, attribute_use_tree}
use Rattle.gdmo_classes.specs.UseTrees.{group_reference_tree, group_use_tree, notification_reference_tree}
use Rattle.gdmo_classes.specs.UseTrees.{notification_use_tree}
use Rattle.gdmo_classes.specs.declared.attribute_use.AttributeUse.{AttributeUse}
use Rattle.gdmo_classes.specs.declared.class.ClassReference.{ClassReference}
use Rattle.gdmo_classes.specs.declared.class.ClassReference.TheVariants.{Label as CLabel, Template' as CTemplate}
use Rattle.gdmo_classes.specs.declared.class.ConditionalPackage.{ConditionalPackage}
use Rattle.gdmo_classes.specs.declared.class.ObjectClassTemplate.{ObjectClassTemplate, Row_of-ClassReference}
use Rattle.gdmo_classes.specs.declared.class.ObjectClassTemplate.{end_of-ClassReference, more_of-ClassReference}
use Rattle.gdmo_classes.specs.declared.class.ObjectClassTemplate.{Held-ObjectClassTemplate-superclasses, None', Some'}
use Rattle.gdmo_classes.specs.declared.creation.Creation.{Creation}
use Rattle.gdmo_classes.specs.declared.creation.Deletion.{Deletion}
use Rattle.gdmo_classes.specs.declared.member_use.ActionUse.{ActionUse}
use Rattle.gdmo_classes.specs.declared.member_use.GroupUse.{GroupUse}
use Rattle.gdmo_classes.specs.declared.member_use.NotificationUse.{NotificationUse}
use Rattle.gdmo_classes.specs.declared.name_binding.ClassScope.{ClassScope}
use Rattle.gdmo_classes.specs.declared.name_binding.NameBindingTemplate.{NameBindingTemplate}
use Rattle.gdmo_classes.specs.declared.package.PackageReference.{PackageReference}
use Rattle.gdmo_classes.specs.declared.package.PackageReference.TheVariants.{Label as PLabel, Template as PTemplate}
use Rattle.gdmo_classes.specs.declared.package.PackageTemplate.{PackageTemplate}
use Rattle.gdmo_classes.specs.declared.properties.PropertyValue.{PropertyValue}
use Rattle.gdmo_classes.specs.declared.properties.PropertyValue.TheVariants.{Value, Rule}
use Rattle.gdmo_classes.specs.declared.references.ActionReference.{ActionReference}
use Rattle.gdmo_classes.specs.declared.references.ActionReference.TheVariants.{Label as ALabel, Template as ATemplate}
use Rattle.gdmo_classes.specs.declared.references.GroupReference.{GroupReference}
use Rattle.gdmo_classes.specs.declared.references.GroupReference.TheVariants.{Label as GLabel, Template as GTemplate}
use Rattle.gdmo_classes.specs.declared.references.NotificationReference.{NotificationReference}
use Rattle.gdmo_classes.specs.declared.references.NotificationReference.TheVariants.{Label as NLabel}
use Rattle.gdmo_classes.specs.declared.references.NotificationReference.TheVariants.{Template as NTemplate}
use Rattle.gdmo_classes.specs.declared.template.ClassTemplate.{ClassTemplate}
use Rattle.gdmo_classes.specs.declared.template.ClassTemplate.TheVariants.{Class, Package, NameBinding}
use Rattle.gdmo_names.specs.ClassViews.{action_reference, binding_term, class_reference, class_term}
use Rattle.gdmo_names.specs.ClassViews.{conditional_reference, creation_term, deletion_term, group_reference}
use Rattle.gdmo_names.specs.ClassViews.{held_terms, notification_reference, package_reference, package_term}
use Rattle.gdmo_names.specs.ClassViews.{row_terms, rows_of, stated_term, superclass_terms, use_terms, uses_of}
use Rattle.gdmo_names.specs.DocumentTemplates.{in_life, in_reference, in_references, in_rows, in_stated, in_template}
use Rattle.gdmo_names.specs.DocumentTemplates.{in_uses}
use Rattle.gdmo_names.specs.MemberViews.{attribute_reference, clause_terms, parameter_reference, reference_terms}
use Rattle.gdmo_names.specs.PartViews.{class_placed}
use Rattle.gdmo_names.specs.TemplateTerms.{ReferenceTerm, ReferenceTerms}
use Rattle.arc_laws.proofs.MemberIdentifiers.{action_whole, behaviours_whole, group_whole, notification_whole}
use Rattle.arc_laws.proofs.MemberIdentifiers.{one_attribute, one_behaviour, one_parameter}
use Rattle.arc_laws.proofs.Saying.{ListSaid, MaybeSaid, Spelt, each_said, either_said, listed_said, many_said}
use Rattle.arc_laws.proofs.Saying.{named_said, pair_said}
use Rattle.arc_laws.proofs.TemplateIdentifiers.{AreWholeTemplates, body_said, both_whole, clause_said, ending_whole}
use Rattle.arc_laws.proofs.TemplateIdentifiers.{first_whole, no_template, references_whole, registered_whole, row_whole}

module _ (tokens : List Token) (whole : All (λ x. x.kind ≡ number_kind → IsWhole x) tokens) where
  -- ---- packages

  parameter_row : (xs : Vec ParameterReference Global) →
      Spelt tokens templates (reference_row parameters) (vector_tree parameter_reference_tree xs) →
      AreWholeTemplates (in_references (reference_terms parameter_reference xs.items))
  parameter_row xs said = row_whole tokens templates (reference parameters) parameter_reference
      parameter_reference_tree (one_parameter tokens whole) xs (many_said tokens templates said)

  attribute_row : (xs : Vec AttributeReference Global) →
      Spelt tokens templates (reference_row attributes) (vector_tree attribute_reference_tree xs) →
      AreWholeTemplates (in_references (reference_terms attribute_reference xs.items))
  attribute_row xs said = row_whole tokens templates (reference attributes) attribute_reference
      attribute_reference_tree (one_attribute tokens whole) xs (many_said tokens templates said)

  stated_whole : (x : Option PropertyValue) → AreWholeTemplates (in_stated (stated_term x))
  stated_whole None = no_template
  stated_whole (Some (Value name)) = no_template
  stated_whole (Some (Rule rule)) = one_behaviour tokens whole rule

  -- an attribute of a package, before the next ones
  IsWholeUse : AttributeUse → Type 0
  IsWholeUse x = AreWholeTemplates (in_reference (attribute_reference x.attribute))
      × AreWholeTemplates (in_references (reference_terms parameter_reference x.parameters.items))

  joined_uses : (xs : List AttributeUse) → AllByRecursion IsWholeUse xs → AreWholeTemplates (in_uses (use_terms xs))
  unfolding IsWholeUse
  joined_uses [] all = no_template
  joined_uses (x ∷ xs) all = both_whole all.0.0 (both_whole (stated_whole x.properties.default_value)
      (both_whole (stated_whole x.properties.initial_value) (both_whole all.0.1 (joined_uses xs all.1))))

  one_use : (x : AttributeUse) → Spelt tokens templates attribute_use (attribute_use_tree x) → IsWholeUse x
  unfolding IsWholeUse
  one_use x said =
      let parts = pair_said tokens templates said in (
        one_attribute tokens whole x.attribute parts.0,
        parameter_row x.parameters (pair_said tokens templates parts.1).1,
      )

  uses_whole : (x : Option (Vec AttributeUse Global)) →
      MaybeSaid tokens templates attributes_clause (optional_tree (clause_tree (vector_tree attribute_use_tree)) x) →
      AreWholeTemplates (in_uses (uses_of x))
  uses_whole None said = no_template
  uses_whole (Some xs) said = joined_uses xs.items
      (each_said tokens templates attribute_use attribute_use_tree IsWholeUse Empty xs.items one_use
      (listed_said tokens templates (clause_said tokens templates said))).1

  -- groups, actions and notifications of a package
  module _ {X : Type 0} (f : Form) (one : X → ReferenceTerm) (behind : X → ReferenceTerms) (view : X → Tree)
      (each : (x : X) → Spelt tokens templates f (view x) → AreWholeTemplates (in_reference (one x))
      × AreWholeTemplates (in_references (behind x))) where
    joined_rows : (xs : List X) → AllByRecursion (λ x. AreWholeTemplates (in_reference (one x))
        × AreWholeTemplates (in_references (behind x))) xs → AreWholeTemplates (in_rows (row_terms one behind xs))
    joined_rows [] all = no_template
    joined_rows (x ∷ xs) all = both_whole all.0.0 (both_whole all.0.1 (joined_rows xs all.1))

    rows_whole : (texts : List (List ℕ)) (x : Option (Vec X Global)) →
        MaybeSaid tokens templates (clause texts (Listed comma Empty f))
        (optional_tree (clause_tree (vector_tree view)) x) → AreWholeTemplates (in_rows (rows_of one behind x))
    rows_whole texts None said = no_template
    rows_whole texts (Some xs) said = joined_rows xs.items
        (each_said tokens templates f view (λ x. AreWholeTemplates (in_reference (one x))
        × AreWholeTemplates (in_references (behind x))) Empty xs.items each
        (listed_said tokens templates (clause_said tokens templates said))).1

  one_group : (x : GroupReference) → Spelt tokens templates (reference groups) (group_reference_tree x) →
      AreWholeTemplates (in_reference (group_reference x))
  one_group (GLabel x) said = no_template
  one_group (GTemplate x) said = group_whole tokens whole x (either_said tokens templates said)

  one_action : (x : ActionReference) → Spelt tokens templates (reference actions) (action_reference_tree x) →
      AreWholeTemplates (in_reference (action_reference x))
  one_action (ALabel x) said = no_template
  one_action (ATemplate x) said = action_whole tokens whole x (either_said tokens templates said)

  one_notification : (x : NotificationReference) →
      Spelt tokens templates (reference notifications) (notification_reference_tree x) →
      AreWholeTemplates (in_reference (notification_reference x))
  one_notification (NLabel x) said = no_template
  one_notification (NTemplate x) said = notification_whole tokens whole x (either_said tokens templates said)

  package_whole : (x : PackageTemplate) → Spelt tokens templates (Named packages) (package_tree x) →
      AreWholeTemplates (in_template (package_term x))
  package_whole x said =
      let parts = body_said tokens templates package_clauses tt (named_said tokens templates said) in
      let groups_said = rows_whole _ (λ (y : GroupUse). group_reference y.group)
      (λ y. reference_terms attribute_reference y.attributes.items) group_use_tree
      (λ y one. let two = pair_said tokens templates one in
      (one_group y.group two.0, attribute_row y.attributes two.1))
      (codes "ATTRIBUTE" ∷ codes "GROUPS" ∷ []) x.groups parts.0.1.1.0 in
      let actions_said = rows_whole _ (λ (y : ActionUse). action_reference y.action)
      (λ y. reference_terms parameter_reference y.parameters.items) action_use_tree
      (λ y one. let two = pair_said tokens templates one in
      (one_action y.action two.0, parameter_row y.parameters two.1))
      (codes "ACTIONS" ∷ []) x.actions parts.0.1.1.1.0 in
      let notifications_said = rows_whole _ (λ (y : NotificationUse). notification_reference y.notification)
      (λ y. reference_terms parameter_reference y.parameters.items) notification_use_tree
      (λ y one. let two = pair_said tokens templates one in
      (one_notification y.notification two.0, parameter_row y.parameters two.1))
      (codes "NOTIFICATIONS" ∷ []) x.notifications parts.0.1.1.1.1.0 in
      first_whole _ _ _ (ending_whole tokens templates whole x.registration parts.1)
      (both_whole (behaviours_whole tokens whole x.behaviour parts.0.0)
      (both_whole (uses_whole x.attributes parts.0.1.0)
      (both_whole groups_said (both_whole actions_said notifications_said))))

  one_package : (x : PackageReference) → Spelt tokens templates (reference packages) (package_reference_tree x) →
      AreWholeTemplates (in_reference (package_reference x))
  one_package (PLabel x) said = no_template
  one_package (PTemplate x) said = package_whole x (either_said tokens templates said)

  one_conditional : (x : ConditionalPackage) → Spelt tokens templates conditional_package (conditional_tree x) →
      AreWholeTemplates (in_reference (conditional_reference x))
  one_conditional x said = one_package x.package (pair_said tokens templates said).0

  -- ---- classes

  packages_whole : (x : Option (Vec PackageReference Global)) →
      MaybeSaid tokens templates packages_clause (packages_tree x) →
      AreWholeTemplates (in_references (clause_terms package_reference x))
  packages_whole x said = references_whole tokens templates (reference packages) package_reference
      package_reference_tree one_package (codes "CHARACTERIZED" ∷ codes "BY" ∷ []) x said

  conditionals_whole : (x : Option (Vec ConditionalPackage Global)) →
      MaybeSaid tokens templates conditional_clause (conditionals_tree x) →
      AreWholeTemplates (in_references (clause_terms conditional_reference x))
  conditionals_whole x said = references_whole tokens templates conditional_package conditional_reference
      conditional_tree one_conditional (codes "CONDITIONAL" ∷ codes "PACKAGES" ∷ []) x said

  mutual
    one_class : (x : ClassReference) → Spelt tokens templates (reference classes) (class_reference_tree x) →
        AreWholeTemplates (in_reference (class_reference x))
    one_class (CLabel x) said = no_template
    one_class (CTemplate place document label superclasses packages conditional registration) said =
        let parts = body_said tokens templates class_clauses tt
        (named_said tokens templates (either_said tokens templates said)) in
        first_whole _ _ _ (registered_whole tokens templates whole registration parts.1)
        (both_whole (held_whole superclasses parts.0.0)
        (both_whole (packages_whole packages parts.0.1.0) (conditionals_whole conditional parts.0.1.1.0)))

    row_said : {n : _} (before : Tree) (row : Row_of-ClassReference n) →
        ListSaid tokens templates (reference classes) (row_tree before row) →
        ListSaid tokens templates (reference classes) before
        × AreWholeTemplates (in_references (superclass_terms row))
    row_said before end_of-ClassReference said = (said, no_template)
    row_said before (more_of-ClassReference class others) said =
        let rest = row_said (After before (class_reference_tree class)) others said in
        (rest.0.0, both_whole (one_class class rest.0.1) rest.1)

    held_whole : (x : Held-ObjectClassTemplate-superclasses) →
        MaybeSaid tokens templates superclasses_clause (held_tree x) → AreWholeTemplates (in_references (held_terms x))
    held_whole None' said = no_template
    held_whole (Some' shape row) said =
        (row_said Empty row (listed_said tokens templates (clause_said tokens templates said))).1

  class_whole : (x : ObjectClassTemplate) → Spelt tokens templates (Named classes) (class_tree x) →
      AreWholeTemplates (in_template (class_term x))
  class_whole x said =
      let parts = body_said tokens templates class_clauses tt (named_said tokens templates said) in
      first_whole _ _ _ (registered_whole tokens templates whole x.registration parts.1)
      (both_whole (references_whole tokens templates (reference classes) class_reference class_reference_tree one_class
      (codes "DERIVED" ∷ codes "FROM" ∷ []) x.superclasses parts.0.0)
      (both_whole (packages_whole x.packages parts.0.1.0) (conditionals_whole x.conditional parts.0.1.1.0)))

  -- ---- name bindings

  scope_whole : (x : ClassScope) → Spelt tokens templates class_with_subclasses (class_scope_tree x) →
      AreWholeTemplates (in_reference (class_reference x.class))
  scope_whole x said = one_class x.class (pair_said tokens templates said).0

  creation_whole : (x : Option Creation) → MaybeSaid tokens templates create_clause (creations_tree x) →
      AreWholeTemplates (in_life (creation_term x))
  creation_whole None said = no_template
  creation_whole (Some x) said =
      parameter_row x.parameters (pair_said tokens templates (clause_said tokens templates said)).1

  deletion_whole : (x : Option Deletion) → MaybeSaid tokens templates delete_clause (deletions_tree x) →
      AreWholeTemplates (in_life (deletion_term x))
  deletion_whole None said = no_template
  deletion_whole (Some x) said =
      parameter_row x.parameters (pair_said tokens templates (clause_said tokens templates said)).1

  binding_whole : (x : NameBindingTemplate) → Spelt tokens templates (Named name_bindings) (name_binding_tree x) →
      AreWholeTemplates (in_template (binding_term x))
  binding_whole x said =
      let parts = body_said tokens templates name_binding_clauses tt (named_said tokens templates said) in
      first_whole _ _ _ (registered_whole tokens templates whole x.registration parts.1)
      (both_whole (scope_whole x.subordinate (clause_said tokens templates parts.0.0))
      (both_whole (scope_whole x.superior (clause_said tokens templates parts.0.1.0))
      (both_whole (one_attribute tokens whole x.attribute (clause_said tokens templates parts.0.1.1.0))
      (both_whole (behaviours_whole tokens whole x.behaviour parts.0.1.1.1.0)
      (both_whole (creation_whole x.create parts.0.1.1.1.1.0) (deletion_whole x.delete parts.0.1.1.1.1.1.0))))))

  -- a template with other templates in it
  pub class_level_whole : (x : ClassTemplate) → Spelt tokens templates class_level (class_template_tree x) →
      AreWholeTemplates (in_template (class_placed x).template)
  class_level_whole (Package x) said = package_whole x (either_said tokens templates said)
  class_level_whole (Class x) said =
      class_whole x (either_said tokens templates (either_said tokens templates said))
  class_level_whole (NameBinding x) said =
      binding_whole x (either_said tokens templates (either_said tokens templates said))
