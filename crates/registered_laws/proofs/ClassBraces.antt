-- ClassBraces: no place has more braces of the identifiers of the templates in a class, a package or a name binding
-- than tokens of its tree.
use Rattle.std.proofs.Common.{ℕ, ◌+◌, ◌≤◌, List, [], ◌∷◌, ◌++◌, Option, None, Some, arith}
use Rattle.std.specs.declared.alloc.Global.{Global}
use Rattle.std.specs.declared.vec.Vec.{Vec}
use Rattle.token_grammar.specs.Form.{Tree, After, Empty, Present}
use Rattle.token_grammar.specs.Parts.{list_tree, optional_tree, vector_tree}
use Rattle.gdmo_members.specs.Trees.{clause_tree}
use Rattle.gdmo_members.specs.MemberTrees.{attribute_reference_tree, parameter_reference_tree}
use Rattle.gdmo_members.specs.declared.attribute.AttributeReference.{AttributeReference}
use Rattle.gdmo_members.specs.declared.parameter.ParameterReference.{ParameterReference}
use Rattle.gdmo_classes.specs.BindingTrees.{class_scope_tree, creations_tree, deletions_tree, name_binding_tree}
use Rattle.gdmo_classes.specs.ClassTrees.{class_reference_tree, class_tree, conditionals_tree, held_tree, packages_tree}
use Rattle.gdmo_classes.specs.ClassTrees.{row_tree}
use Rattle.gdmo_classes.specs.PackageTrees.{conditional_tree, package_reference_tree, package_tree}
use Rattle.gdmo_classes.specs.TemplateTree.{class_template_tree}
use Rattle.gdmo_classes.specs.UseTrees.{action_reference_tree, action_use_tree, attribute_use_tree}
use Rattle.gdmo_classes.specs.UseTrees.{group_reference_tree, group_use_tree, notification_reference_tree}
use Rattle.gdmo_classes.specs.UseTrees.{notification_use_tree, valued_tree}
use Rattle.gdmo_classes.specs.declared.attribute_use.AttributeUse.{AttributeUse}
use Rattle.gdmo_classes.specs.declared.class.ClassReference.{ClassReference}
use Rattle.gdmo_classes.specs.declared.class.ClassReference.TheVariants.{Label as CLabel, Template' as CTemplate}
use Rattle.gdmo_classes.specs.declared.class.ConditionalPackage.{ConditionalPackage}
use Rattle.gdmo_classes.specs.declared.class.ObjectClassTemplate.{ObjectClassTemplate, Row_of-ClassReference}
use Rattle.gdmo_classes.specs.declared.class.ObjectClassTemplate.{end_of-ClassReference, more_of-ClassReference}
use Rattle.gdmo_classes.specs.declared.class.ObjectClassTemplate.{Held-ObjectClassTemplate-superclasses, None', Some'}
use Rattle.gdmo_classes.specs.declared.creation.Creation.{Creation}
use Rattle.gdmo_classes.specs.declared.creation.Deletion.{Deletion}
use Rattle.gdmo_classes.specs.declared.member_use.ActionUse.{ActionUse}
use Rattle.gdmo_classes.specs.declared.member_use.GroupUse.{GroupUse}
use Rattle.gdmo_classes.specs.declared.member_use.NotificationUse.{NotificationUse}
use Rattle.gdmo_classes.specs.declared.name_binding.ClassScope.{ClassScope}
use Rattle.gdmo_classes.specs.declared.name_binding.NameBindingTemplate.{NameBindingTemplate}
use Rattle.gdmo_classes.specs.declared.package.PackageReference.{PackageReference}
use Rattle.gdmo_classes.specs.declared.package.PackageReference.TheVariants.{Label as PLabel, Template as PTemplate}
use Rattle.gdmo_classes.specs.declared.package.PackageTemplate.{PackageTemplate}
use Rattle.gdmo_classes.specs.declared.properties.PropertyValue.{PropertyValue}
use Rattle.gdmo_classes.specs.declared.properties.PropertyValue.TheVariants.{Value, Rule}
use Rattle.gdmo_classes.specs.declared.references.ActionReference.{ActionReference}
use Rattle.gdmo_classes.specs.declared.references.ActionReference.TheVariants.{Label as ALabel, Template as ATemplate}
use Rattle.gdmo_classes.specs.declared.references.GroupReference.{GroupReference}
use Rattle.gdmo_classes.specs.declared.references.GroupReference.TheVariants.{Label as GLabel, Template as GTemplate}
use Rattle.gdmo_classes.specs.declared.references.NotificationReference.{NotificationReference}
use Rattle.gdmo_classes.specs.declared.references.NotificationReference.TheVariants.{Label as NLabel}
use Rattle.gdmo_classes.specs.declared.references.NotificationReference.TheVariants.{Template as NTemplate}
use Rattle.gdmo_classes.specs.declared.template.ClassTemplate.{ClassTemplate}
use Rattle.gdmo_classes.specs.declared.template.ClassTemplate.TheVariants.{Class, Package, NameBinding}
use Rattle.gdmo_names.specs.ClassViews.{action_reference, binding_term, class_reference, class_term}
use Rattle.gdmo_names.specs.ClassViews.{conditional_reference, creation_term, deletion_term, group_reference}
use Rattle.gdmo_names.specs.ClassViews.{held_terms, notification_reference, package_reference, package_term}
use Rattle.gdmo_names.specs.ClassViews.{row_terms, rows_of, stated_term, superclass_terms, use_terms, uses_of}
use Rattle.gdmo_names.specs.DocumentTemplates.{in_life, in_reference, in_references, in_rows, in_stated, in_template}
use Rattle.gdmo_names.specs.DocumentTemplates.{in_uses}
use Rattle.gdmo_names.specs.MemberViews.{attribute_reference, clause_terms, parameter_reference, reference_terms}
use Rattle.gdmo_names.specs.PartViews.{class_placed}
use Rattle.gdmo_names.specs.TemplateTerms.{ReferenceTerm, ReferenceTerms, TemplateTerm}
use Rattle.registered_laws.proofs.MemberBraces.{action_below, behaviours_below, group_below, notification_below}
use Rattle.registered_laws.proofs.MemberBraces.{one_attribute, one_behaviour, one_parameter}
use Rattle.placing_laws.proofs.PlaceCounts.{leaves}
use Rattle.registered_laws.proofs.TemplateBraces.{Below, both_below, clause_part, first_below, braces, braces_append}
use Rattle.registered_laws.proofs.TemplateBraces.{left_below, nothing_below, present_below, references_below}
use Rattle.registered_laws.proofs.TemplateBraces.{right_below}
use Rattle.registered_laws.proofs.TemplateBraces.{maybe_end, registered_end, second_below, template_below, vector_below}

module _ (p : ℕ) where
  -- ---- packages

  parameter_row : (xs : Vec ParameterReference Global) → Below p
      (in_references (reference_terms parameter_reference xs.items)) (vector_tree parameter_reference_tree xs)
  parameter_row xs = vector_below parameter_reference parameter_reference_tree (one_parameter p) xs

  attribute_row : (xs : Vec AttributeReference Global) → Below p
      (in_references (reference_terms attribute_reference xs.items)) (vector_tree attribute_reference_tree xs)
  attribute_row xs = vector_below attribute_reference attribute_reference_tree (one_attribute p) xs

  stated_below : (x : Option PropertyValue) → Below p (in_stated (stated_term x)) (optional_tree valued_tree x)
  stated_below None = nothing_below _
  stated_below (Some (Value name)) = nothing_below _
  stated_below (Some (Rule rule)) = present_below (right_below (second_below (right_below (one_behaviour p rule))))

  -- an attribute of a package, before the next ones
  one_use : (x : AttributeUse) (rest : List TemplateTerm) →
      braces p (in_reference (attribute_reference x.attribute)
      ++ (in_stated (stated_term x.properties.default_value) ++ (in_stated (stated_term x.properties.initial_value)
      ++ (in_references (reference_terms parameter_reference x.parameters.items) ++ rest)))) ≤
      leaves p (attribute_use_tree x) + braces p rest
  one_use x rest =
      let default = in_stated (stated_term x.properties.default_value) in
      let initial = in_stated (stated_term x.properties.initial_value) in
      let behind = in_references (reference_terms parameter_reference x.parameters.items) in
      let first = braces_append p (in_reference (attribute_reference x.attribute))
      (default ++ (initial ++ (behind ++ rest))) in
      let second = braces_append p default (initial ++ (behind ++ rest)) in
      let third = braces_append p initial (behind ++ rest) in
      let fourth = braces_append p behind rest in
      let a = (one_attribute p x.attribute).fits in
      let d = (stated_below x.properties.default_value).fits in
      let i = (stated_below x.properties.initial_value).fits in
      let b = (parameter_row x.parameters).fits in
      omega arith

  uses_list : (before : Tree) (xs : List AttributeUse) →
      leaves p before + braces p (in_uses (use_terms xs)) ≤ leaves p (list_tree attribute_use_tree before xs)
  uses_list before [] = omega arith
  uses_list before (x ∷ xs) =
      let one = one_use x (in_uses (use_terms xs)) in
      let rest = uses_list (After before (attribute_use_tree x)) xs in
      omega arith

  uses_below : (x : Option (Vec AttributeUse Global)) →
      Below p (in_uses (uses_of x)) (optional_tree (clause_tree (vector_tree attribute_use_tree)) x)
  uses_below None = nothing_below _
  uses_below (Some xs) =
      present_below (clause_part (record { fits = let all = uses_list Empty xs.items in omega arith }))

  -- groups, actions and notifications of a package
  module _ {X : Type 0} (one : X → ReferenceTerm) (behind : X → ReferenceTerms) (view : X → Tree)
      (each : (x : X) → Below p (in_reference (one x) ++ in_references (behind x)) (view x)) where
    rows_list : (before : Tree) (xs : List X) →
        leaves p before + braces p (in_rows (row_terms one behind xs)) ≤ leaves p (list_tree view before xs)
    rows_list before [] = omega arith
    rows_list before (x ∷ xs) =
        let both = braces_append p (in_reference (one x)) (in_references (behind x)) in
        let first = braces_append p (in_reference (one x))
        (in_references (behind x) ++ in_rows (row_terms one behind xs)) in
        let second = braces_append p (in_references (behind x)) (in_rows (row_terms one behind xs)) in
        let fits = (each x).fits in
        let rest = rows_list (After before (view x)) xs in
        omega arith

    rows_below : (x : Option (Vec X Global)) →
        Below p (in_rows (rows_of one behind x)) (optional_tree (clause_tree (vector_tree view)) x)
    rows_below None = nothing_below _
    rows_below (Some xs) =
        present_below (clause_part (record { fits = let all = rows_list Empty xs.items in omega arith }))

  one_group : (x : GroupReference) → Below p (in_reference (group_reference x)) (group_reference_tree x)
  one_group (GLabel x) = nothing_below _
  one_group (GTemplate x) = second_below (group_below p x)

  one_action : (x : ActionReference) → Below p (in_reference (action_reference x)) (action_reference_tree x)
  one_action (ALabel x) = nothing_below _
  one_action (ATemplate x) = second_below (action_below p x)

  one_notification : (x : NotificationReference) →
      Below p (in_reference (notification_reference x)) (notification_reference_tree x)
  one_notification (NLabel x) = nothing_below _
  one_notification (NTemplate x) = second_below (notification_below p x)

  package_below : (x : PackageTemplate) → Below p (in_template (package_term x)) (package_tree x)
  package_below x = template_below x.document x.label _ _ _ (maybe_end p x.registration)
      (both_below (behaviours_below p x.behaviour)
      (both_below (uses_below x.attributes)
      (both_below (rows_below _ _ group_use_tree (λ (y : GroupUse). both_below (one_group y.group)
      (attribute_row y.attributes)) x.groups)
      (both_below (rows_below _ _ action_use_tree (λ (y : ActionUse). both_below (one_action y.action)
      (parameter_row y.parameters)) x.actions)
      (left_below (rows_below _ _ notification_use_tree (λ (y : NotificationUse).
      both_below (one_notification y.notification) (parameter_row y.parameters)) x.notifications))))))

  one_package : (x : PackageReference) → Below p (in_reference (package_reference x)) (package_reference_tree x)
  one_package (PLabel x) = nothing_below _
  one_package (PTemplate x) = second_below (package_below x)

  one_conditional : (x : ConditionalPackage) → Below p (in_reference (conditional_reference x)) (conditional_tree x)
  one_conditional x = left_below (one_package x.package)

  -- ---- classes

  packages_below : (x : Option (Vec PackageReference Global)) →
      Below p (in_references (clause_terms package_reference x)) (packages_tree x)
  packages_below x = references_below package_reference package_reference_tree one_package x

  conditionals_below : (x : Option (Vec ConditionalPackage Global)) →
      Below p (in_references (clause_terms conditional_reference x)) (conditionals_tree x)
  conditionals_below x = references_below conditional_reference conditional_tree one_conditional x

  mutual
    one_class : (x : ClassReference) → Below p (in_reference (class_reference x)) (class_reference_tree x)
    one_class (CLabel x) = nothing_below _
    one_class (CTemplate place document label superclasses packages conditional registration) =
        second_below (template_below document label _ _ _ (registered_end p registration)
        (both_below (held_below superclasses)
        (both_below (packages_below packages) (left_below (conditionals_below conditional)))))

    row_below : {n : _} (before : Tree) (row : Row_of-ClassReference n) →
        leaves p before + braces p (in_references (superclass_terms row)) ≤ leaves p (row_tree before row)
    row_below before end_of-ClassReference = omega arith
    row_below before (more_of-ClassReference class others) =
        let first = (one_class class).fits in
        let all = braces_append p (in_reference (class_reference class)) (in_references (superclass_terms others)) in
        let rest = row_below (After before (class_reference_tree class)) others in
        omega arith

    held_below : (x : Held-ObjectClassTemplate-superclasses) → Below p (in_references (held_terms x)) (held_tree x)
    held_below None' = nothing_below _
    held_below (Some' shape row) =
        present_below (clause_part (record { fits = let all = row_below Empty row in omega arith }))

  class_below : (x : ObjectClassTemplate) → Below p (in_template (class_term x)) (class_tree x)
  class_below x = template_below x.document x.label _ _ _ (registered_end p x.registration)
      (both_below (references_below class_reference class_reference_tree one_class x.superclasses)
      (both_below (packages_below x.packages) (left_below (conditionals_below x.conditional))))

  -- ---- name bindings

  scope_below : (x : ClassScope) →
      Below p (in_reference (class_reference x.class)) (Present (clause_tree class_scope_tree x))
  scope_below x = present_below (clause_part (left_below (one_class x.class)))

  creation_below : (x : Option Creation) → Below p (in_life (creation_term x)) (creations_tree x)
  creation_below None = nothing_below _
  creation_below (Some x) = present_below (clause_part (right_below (parameter_row x.parameters)))

  deletion_below : (x : Option Deletion) → Below p (in_life (deletion_term x)) (deletions_tree x)
  deletion_below None = nothing_below _
  deletion_below (Some x) = present_below (clause_part (right_below (parameter_row x.parameters)))

  binding_below : (x : NameBindingTemplate) → Below p (in_template (binding_term x)) (name_binding_tree x)
  binding_below x = template_below x.document x.label _ _ _ (registered_end p x.registration)
      (both_below (scope_below x.subordinate)
      (both_below (scope_below x.superior) (both_below (present_below (clause_part (one_attribute p x.attribute)))
      (both_below (behaviours_below p x.behaviour)
      (both_below (creation_below x.create) (left_below (deletion_below x.delete)))))))

  -- a template with other templates in it
  pub class_level_below : (x : ClassTemplate) →
      Below p (in_template (class_placed x).template) (class_template_tree x)
  class_level_below (Package x) = first_below (package_below x)
  class_level_below (Class x) = second_below (first_below (class_below x))
  class_level_below (NameBinding x) = second_below (second_below (binding_below x))
