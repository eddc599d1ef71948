-- MemberBraces: no place has more braces of the identifiers of the templates in an attribute, a parameter, a group, an
-- action, a notification or a behaviour than tokens of its tree.
use Rattle.std.proofs.Common.{ℕ, ◌+◌, ◌≤◌, List, [], ◌∷◌, Option, None, Some, arith}
use Rattle.std.specs.declared.alloc.Global.{Global}
use Rattle.std.specs.declared.vec.Vec.{Vec}
use Rattle.token_grammar.specs.Form.{Tree, After, Bare, Empty}
use Rattle.token_grammar.specs.Parts.{list_tree, optional_tree}
use Rattle.gdmo_members.specs.Trees.{behaviour_reference_tree, behaviour_tree, clause_tree}
use Rattle.gdmo_members.specs.MemberTree.{member_tree}
use Rattle.gdmo_members.specs.MemberTrees.{attribute_reference_tree, attribute_syntax_tree, attribute_tree}
use Rattle.gdmo_members.specs.MemberTrees.{held_tree, parameter_reference_tree, parameter_syntax_tree, parameter_tree}
use Rattle.gdmo_members.specs.MemberTrees.{row_tree, behaviours_tree, parameters_tree}
use Rattle.gdmo_members.specs.FurtherTrees.{action_tree, field_tree, fields_tree, group_tree, information_tree}
use Rattle.gdmo_members.specs.FurtherTrees.{notification_tree}
use Rattle.gdmo_members.specs.declared.action.ActionTemplate.{ActionTemplate}
use Rattle.gdmo_members.specs.declared.attribute.AttributeReference.{AttributeReference}
use Rattle.gdmo_members.specs.declared.attribute.AttributeReference.TheVariants.{Label as ALabel}
use Rattle.gdmo_members.specs.declared.attribute.AttributeReference.TheVariants.{Template' as ATemplate}
use Rattle.gdmo_members.specs.declared.attribute.AttributeSyntax.{AttributeSyntax}
use Rattle.gdmo_members.specs.declared.attribute.AttributeSyntax.TheVariants.{TypeReference as AType, Derived}
use Rattle.gdmo_members.specs.declared.attribute.AttributeTemplate.{AttributeTemplate, Row_of-ParameterReference}
use Rattle.gdmo_members.specs.declared.attribute.AttributeTemplate.{end_of-ParameterReference}
use Rattle.gdmo_members.specs.declared.attribute.AttributeTemplate.{more_of-ParameterReference}
use Rattle.gdmo_members.specs.declared.attribute.AttributeTemplate.{Held-AttributeTemplate-parameters, None', Some'}
use Rattle.gdmo_members.specs.declared.behaviour.BehaviourReference.{BehaviourReference}
use Rattle.gdmo_members.specs.declared.behaviour.BehaviourReference.TheVariants.{Label as BLabel, Template as BTemplate}
use Rattle.gdmo_members.specs.declared.behaviour.BehaviourTemplate.{BehaviourTemplate}
use Rattle.gdmo_members.specs.declared.group.GroupTemplate.{GroupTemplate}
use Rattle.gdmo_members.specs.declared.member.MemberTemplate.{MemberTemplate}
use Rattle.gdmo_members.specs.declared.member.MemberTemplate.TheVariants.{Attribute, Group, Action, Notification}
use Rattle.gdmo_members.specs.declared.member.MemberTemplate.TheVariants.{Parameter, Behaviour}
use Rattle.gdmo_members.specs.declared.notification.Field.{Field}
use Rattle.gdmo_members.specs.declared.notification.Information.{Information}
use Rattle.gdmo_members.specs.declared.notification.NotificationTemplate.{NotificationTemplate}
use Rattle.gdmo_members.specs.declared.parameter.ParameterReference.{ParameterReference}
use Rattle.gdmo_members.specs.declared.parameter.ParameterReference.TheVariants.{Label as PLabel}
use Rattle.gdmo_members.specs.declared.parameter.ParameterReference.TheVariants.{Template' as PTemplate}
use Rattle.gdmo_members.specs.declared.parameter.ParameterSyntax.{ParameterSyntax}
use Rattle.gdmo_members.specs.declared.parameter.ParameterSyntax.TheVariants.{TypeReference as PType}
use Rattle.gdmo_members.specs.declared.parameter.ParameterSyntax.TheVariants.{Attribute as PAttribute}
use Rattle.gdmo_members.specs.declared.parameter.ParameterTemplate.{ParameterTemplate}
use Rattle.gdmo_names.specs.DocumentTemplates.{in_fields, in_reference, in_references, in_syntax, in_template}
use Rattle.gdmo_names.specs.MemberViews.{action_term, attribute_reference, attribute_syntax_term, attribute_term}
use Rattle.gdmo_names.specs.MemberViews.{behaviour_reference, behaviour_term, behaviour_terms, field_terms, group_term}
use Rattle.gdmo_names.specs.MemberViews.{clause_terms, fields_of, held_terms, information_fields, notification_term}
use Rattle.gdmo_names.specs.MemberViews.{parameter_reference}
use Rattle.gdmo_names.specs.MemberViews.{parameter_syntax_term, parameter_term, row_terms}
use Rattle.gdmo_names.specs.PartViews.{member_placed}
use Rattle.placing_laws.proofs.PlaceCounts.{leaves}
use Rattle.registered_laws.proofs.TemplateBraces.{Below, both_below, clause_part, braces, braces_append, left_below}
use Rattle.registered_laws.proofs.TemplateBraces.{nothing_below, present_below, references_below, right_below}
use Rattle.registered_laws.proofs.TemplateBraces.{first_below, maybe_end, registered_end, second_below}
use Rattle.registered_laws.proofs.TemplateBraces.{template_below}

module _ (p : ℕ) where
  pub behaviour_below : (x : BehaviourTemplate) → Below p (in_template (behaviour_term x)) (behaviour_tree x)
  behaviour_below x = template_below _ _ None _ Bare (omega arith) (nothing_below _)

  pub one_behaviour : (x : BehaviourReference) →
      Below p (in_reference (behaviour_reference x)) (behaviour_reference_tree x)
  one_behaviour (BLabel x) = nothing_below _
  one_behaviour (BTemplate x) = second_below (behaviour_below x)

  pub behaviours_below : (x : Option (Vec BehaviourReference Global)) →
      Below p (in_references (behaviour_terms x)) (behaviours_tree x)
  behaviours_below x = references_below behaviour_reference behaviour_reference_tree one_behaviour x

  mutual
    pub attribute_syntax_below : (x : AttributeSyntax) →
        Below p (in_syntax (attribute_syntax_term x)) (attribute_syntax_tree x)
    attribute_syntax_below (AType name) = nothing_below _
    attribute_syntax_below (Derived base) = second_below (clause_part (one_attribute base))

    pub one_attribute : (x : AttributeReference) →
        Below p (in_reference (attribute_reference x)) (attribute_reference_tree x)
    one_attribute (ALabel x) = nothing_below _
    one_attribute (ATemplate place document label syntax rules behaviour parameters registration) =
        second_below (template_below document label _ _ _ (maybe_end p registration)
        (both_below (present_below (attribute_syntax_below syntax))
        (right_below (both_below (behaviours_below behaviour) (left_below (held_below parameters))))))

    pub parameter_syntax_below : (x : ParameterSyntax) →
        Below p (in_syntax (parameter_syntax_term x)) (parameter_syntax_tree x)
    parameter_syntax_below (PType name) = nothing_below _
    parameter_syntax_below (PAttribute attribute) = second_below (clause_part (one_attribute attribute))

    pub one_parameter : (x : ParameterReference) →
        Below p (in_reference (parameter_reference x)) (parameter_reference_tree x)
    one_parameter (PLabel x) = nothing_below _
    one_parameter (PTemplate place document label context syntax behaviour registration) =
        second_below (template_below document label _ _ _ (maybe_end p registration)
        (right_below (both_below (present_below (parameter_syntax_below syntax))
        (left_below (behaviours_below behaviour)))))

    row_below : {n : _} (before : Tree) (row : Row_of-ParameterReference n) →
        leaves p before + braces p (in_references (row_terms row)) ≤ leaves p (row_tree before row)
    row_below before end_of-ParameterReference = omega arith
    row_below before (more_of-ParameterReference parameter others) =
        let first = (one_parameter parameter).fits in
        let all = braces_append p (in_reference (parameter_reference parameter)) (in_references (row_terms others)) in
        let rest = row_below (After before (parameter_reference_tree parameter)) others in
        omega arith

    held_below : (x : Held-AttributeTemplate-parameters) → Below p (in_references (held_terms x)) (held_tree x)
    held_below None' = nothing_below _
    held_below (Some' shape row) = record { fits = let all = row_below Empty row in omega arith }

  pub parameters_below : (x : Option (Vec ParameterReference Global)) →
      Below p (in_references (clause_terms parameter_reference x)) (parameters_tree x)
  parameters_below x = references_below parameter_reference parameter_reference_tree one_parameter x

  pub attribute_below : (x : AttributeTemplate) → Below p (in_template (attribute_term x)) (attribute_tree x)
  attribute_below x = template_below x.document x.label _ _ _ (maybe_end p x.registration)
      (both_below (present_below (attribute_syntax_below x.syntax))
      (right_below (both_below (behaviours_below x.behaviour) (left_below (parameters_below x.parameters)))))

  pub parameter_below : (x : ParameterTemplate) → Below p (in_template (parameter_term x)) (parameter_tree x)
  parameter_below x = template_below x.document x.label _ _ _ (maybe_end p x.registration)
      (right_below (both_below (present_below (parameter_syntax_below x.syntax))
      (left_below (behaviours_below x.behaviour))))

  pub group_below : (x : GroupTemplate) → Below p (in_template (group_term x)) (group_tree x)
  group_below x = template_below x.document x.label _ _ _ (registered_end p x.registration)
      (left_below (references_below attribute_reference attribute_reference_tree one_attribute x.elements))

  pub action_below : (x : ActionTemplate) → Below p (in_template (action_term x)) (action_tree x)
  action_below x = template_below x.document x.label _ _ _ (registered_end p x.registration)
      (both_below (behaviours_below x.behaviour)
      (right_below (left_below (parameters_below x.parameters))))

  -- fields of a notification
  fields_list : (before : Tree) (xs : List Field) →
      leaves p before + braces p (in_fields (field_terms xs)) ≤ leaves p (list_tree field_tree before xs)
  fields_list before [] = omega arith
  fields_list before (x ∷ xs) =
      let first = (one_attribute x.attribute).fits in
      let all = braces_append p (in_reference (attribute_reference x.attribute)) (in_fields (field_terms xs)) in
      let rest = fields_list (After before (field_tree x)) xs in
      omega arith

  fields_below : (xs : Option (Vec Field Global)) →
      Below p (in_fields (fields_of xs)) (optional_tree fields_tree xs)
  fields_below None = nothing_below _
  fields_below (Some xs) = present_below (right_below (record {
    fits = let all = fields_list Empty xs.items in omega arith;
  }))

  information_below : (x : Option Information) →
      Below p (in_fields (information_fields x)) (optional_tree (clause_tree information_tree) x)
  information_below None = nothing_below _
  information_below (Some x) = present_below (clause_part (right_below (fields_below x.fields)))

  pub notification_below : (x : NotificationTemplate) →
      Below p (in_template (notification_term x)) (notification_tree x)
  notification_below x = template_below x.document x.label _ _ _ (registered_end p x.registration)
      (both_below (behaviours_below x.behaviour)
      (both_below (parameters_below x.parameters) (left_below (information_below x.information))))

  pub member_below : (x : MemberTemplate) → Below p (in_template (member_placed x).template) (member_tree x)
  member_below (Behaviour x) = first_below (behaviour_below x)
  member_below (Attribute x) = second_below (first_below (attribute_below x))
  member_below (Parameter x) = second_below (second_below (first_below (parameter_below x)))
  member_below (Group x) = second_below (second_below (second_below (first_below (group_below x))))
  member_below (Action x) = second_below (second_below (second_below (second_below (first_below (action_below x)))))
  member_below (Notification x) =
      second_below (second_below (second_below (second_below (second_below (notification_below x)))))
