-- MemberIdentifiers: in an attribute, a parameter, a group, an action, a notification or a behaviour that tokens spell
-- the identifiers of the template and of those in line have whole arcs.
use Rattle.std.proofs.Common.{◌≡◌, List, [], ◌∷◌, Option, None, Some}
use Rattle.std.specs.List.{AllByRecursion}
use Rattle.std.specs.Prelude.{All, codes}
use Rattle.std.specs.declared.alloc.Global.{Global}
use Rattle.std.specs.declared.vec.Vec.{Vec}
use Rattle.token_grammar.specs.Form.{Named, Tree, After, Empty}
use Rattle.token_grammar.specs.Kinds.{number_kind}
use Rattle.token_grammar.specs.Parts.{optional_tree}
use Rattle.token_grammar.specs.declared.token.Token.{Token}
use Rattle.gdmo_first_names.specs.ReadModules.{IsWhole}
use Rattle.gdmo_members.specs.Clauses.{actions, attributes, behaviour_clause, behaviours, groups, notifications}
use Rattle.gdmo_members.specs.Clauses.{parameters, parameters_clause, reference}
use Rattle.gdmo_members.specs.Templates.{action_clauses, attribute_clauses, attribute_syntax, field, fields}
use Rattle.gdmo_members.specs.Templates.{group_clauses, information_clause, member, notification_clauses}
use Rattle.gdmo_members.specs.Templates.{parameter_clauses, parameter_syntax, templates}
use Rattle.gdmo_members.specs.Trees.{behaviour_reference_tree, clause_tree}
use Rattle.gdmo_members.specs.MemberTree.{member_tree}
use Rattle.gdmo_members.specs.MemberTrees.{attribute_reference_tree, attribute_syntax_tree, attribute_tree}
use Rattle.gdmo_members.specs.MemberTrees.{behaviours_tree, held_tree, parameter_reference_tree, parameter_syntax_tree}
use Rattle.gdmo_members.specs.MemberTrees.{parameter_tree, parameters_tree, row_tree}
use Rattle.gdmo_members.specs.FurtherTrees.{action_tree, field_tree, fields_tree, group_tree, information_tree}
use Rattle.gdmo_members.specs.FurtherTrees.{notification_tree}
use Rattle.gdmo_members.specs.declared.action.ActionTemplate.{ActionTemplate}
use Rattle.gdmo_members.specs.declared.attribute.AttributeReference.{AttributeReference}
use Rattle.gdmo_members.specs.declared.attribute.AttributeReference.TheVariants.{Label as ALabel}
use Rattle.gdmo_members.specs.declared.attribute.AttributeReference.TheVariants.{Template' as ATemplate}
use Rattle.gdmo_members.specs.declared.attribute.AttributeSyntax.{AttributeSyntax}
use Rattle.gdmo_members.specs.declared.attribute.AttributeSyntax.TheVariants.{TypeReference as AType, Derived}
use Rattle.gdmo_members.specs.declared.attribute.AttributeTemplate.{AttributeTemplate, Row_of-ParameterReference}
use Rattle.gdmo_members.specs.declared.attribute.AttributeTemplate.{end_of-ParameterReference}
use Rattle.gdmo_members.specs.declared.attribute.AttributeTemplate.{more_of-ParameterReference}
use Rattle.gdmo_members.specs.declared.attribute.AttributeTemplate.{Held-AttributeTemplate-parameters, None', Some'}
use Rattle.gdmo_members.specs.declared.behaviour.BehaviourReference.{BehaviourReference}
use Rattle.gdmo_members.specs.declared.behaviour.BehaviourReference.TheVariants.{Label as BLabel, Template as BTemplate}
use Rattle.gdmo_members.specs.declared.behaviour.BehaviourTemplate.{BehaviourTemplate}
use Rattle.gdmo_members.specs.declared.group.GroupTemplate.{GroupTemplate}
use Rattle.gdmo_members.specs.declared.member.MemberTemplate.{MemberTemplate}
use Rattle.gdmo_members.specs.declared.member.MemberTemplate.TheVariants.{Attribute, Group, Action, Notification}
use Rattle.gdmo_members.specs.declared.member.MemberTemplate.TheVariants.{Parameter, Behaviour}
use Rattle.gdmo_members.specs.declared.notification.Field.{Field}
use Rattle.gdmo_members.specs.declared.notification.Information.{Information}
use Rattle.gdmo_members.specs.declared.notification.NotificationTemplate.{NotificationTemplate}
use Rattle.gdmo_members.specs.declared.parameter.ParameterReference.{ParameterReference}
use Rattle.gdmo_members.specs.declared.parameter.ParameterReference.TheVariants.{Label as PLabel}
use Rattle.gdmo_members.specs.declared.parameter.ParameterReference.TheVariants.{Template' as PTemplate}
use Rattle.gdmo_members.specs.declared.parameter.ParameterSyntax.{ParameterSyntax}
use Rattle.gdmo_members.specs.declared.parameter.ParameterSyntax.TheVariants.{TypeReference as PType}
use Rattle.gdmo_members.specs.declared.parameter.ParameterSyntax.TheVariants.{Attribute as PAttribute}
use Rattle.gdmo_members.specs.declared.parameter.ParameterTemplate.{ParameterTemplate}
use Rattle.gdmo_names.specs.DocumentTemplates.{in_fields, in_reference, in_references, in_syntax, in_template}
use Rattle.gdmo_names.specs.MemberViews.{action_term, attribute_reference, attribute_syntax_term, attribute_term}
use Rattle.gdmo_names.specs.MemberViews.{behaviour_reference, behaviour_term, behaviour_terms, clause_terms}
use Rattle.gdmo_names.specs.MemberViews.{field_terms}
use Rattle.gdmo_names.specs.MemberViews.{fields_of, group_term, held_terms, information_fields, notification_term}
use Rattle.gdmo_names.specs.MemberViews.{parameter_reference, parameter_syntax_term, parameter_term, row_terms}
use Rattle.gdmo_names.specs.PartViews.{member_placed}
use Rattle.arc_laws.proofs.Saying.{ListSaid, MaybeSaid, Spelt, each_said, either_said, listed_said, maybe_said}
use Rattle.arc_laws.proofs.Saying.{named_said, pair_said}
use Rattle.arc_laws.proofs.TemplateIdentifiers.{AreWholeTemplates, body_said, both_whole, clause_said, ending_whole}
use Rattle.arc_laws.proofs.TemplateIdentifiers.{first_whole, no_template, references_whole, registered_whole}

module _ (tokens : List Token) (whole : All (λ x. x.kind ≡ number_kind → IsWhole x) tokens) where
  pub behaviour_whole : (x : BehaviourTemplate) → AreWholeTemplates (in_template (behaviour_term x))
  behaviour_whole x = first_whole _ _ _ tt no_template

  pub one_behaviour : (x : BehaviourReference) → AreWholeTemplates (in_reference (behaviour_reference x))
  one_behaviour (BLabel x) = no_template
  one_behaviour (BTemplate x) = behaviour_whole x

  pub behaviours_whole : (xs : Option (Vec BehaviourReference Global)) →
      MaybeSaid tokens templates behaviour_clause (behaviours_tree xs) →
      AreWholeTemplates (in_references (behaviour_terms xs))
  behaviours_whole xs said = references_whole tokens templates (reference behaviours) behaviour_reference
      behaviour_reference_tree (λ x _. one_behaviour x) (codes "BEHAVIOUR" ∷ []) xs said

  mutual
    attribute_syntax_whole : (x : AttributeSyntax) → Spelt tokens templates attribute_syntax (attribute_syntax_tree x) →
        AreWholeTemplates (in_syntax (attribute_syntax_term x))
    attribute_syntax_whole (AType name) said = no_template
    attribute_syntax_whole (Derived base) said =
        one_attribute base (clause_said tokens templates (either_said tokens templates said))

    pub one_attribute : (x : AttributeReference) →
        Spelt tokens templates (reference attributes) (attribute_reference_tree x) →
        AreWholeTemplates (in_reference (attribute_reference x))
    one_attribute (ALabel x) said = no_template
    one_attribute (ATemplate place document label syntax rules behaviour parameters registration) said =
        let parts = body_said tokens templates attribute_clauses tt
        (named_said tokens templates (either_said tokens templates said)) in
        first_whole _ _ _ (ending_whole tokens templates whole registration parts.1)
        (both_whole (attribute_syntax_whole syntax parts.0.0)
        (both_whole (behaviours_whole behaviour parts.0.1.1.0) (held_whole parameters parts.0.1.1.1.0)))

    parameter_syntax_whole : (x : ParameterSyntax) → Spelt tokens templates parameter_syntax (parameter_syntax_tree x) →
        AreWholeTemplates (in_syntax (parameter_syntax_term x))
    parameter_syntax_whole (PType name) said = no_template
    parameter_syntax_whole (PAttribute attribute) said =
        one_attribute attribute (clause_said tokens templates (either_said tokens templates said))

    pub one_parameter : (x : ParameterReference) →
        Spelt tokens templates (reference parameters) (parameter_reference_tree x) →
        AreWholeTemplates (in_reference (parameter_reference x))
    one_parameter (PLabel x) said = no_template
    one_parameter (PTemplate place document label context syntax behaviour registration) said =
        let parts = body_said tokens templates parameter_clauses tt
        (named_said tokens templates (either_said tokens templates said)) in
        first_whole _ _ _ (ending_whole tokens templates whole registration parts.1)
        (both_whole (parameter_syntax_whole syntax parts.0.1.0) (behaviours_whole behaviour parts.0.1.1.0))

    row_said : {n : _} (before : Tree) (row : Row_of-ParameterReference n) →
        ListSaid tokens templates (reference parameters) (row_tree before row) →
        ListSaid tokens templates (reference parameters) before × AreWholeTemplates (in_references (row_terms row))
    row_said before end_of-ParameterReference said = (said, no_template)
    row_said before (more_of-ParameterReference parameter others) said =
        let rest = row_said (After before (parameter_reference_tree parameter)) others said in
        (rest.0.0, both_whole (one_parameter parameter rest.0.1) rest.1)

    held_whole : (x : Held-AttributeTemplate-parameters) →
        MaybeSaid tokens templates parameters_clause (held_tree x) → AreWholeTemplates (in_references (held_terms x))
    held_whole None' said = no_template
    held_whole (Some' shape row) said =
        (row_said Empty row (listed_said tokens templates (clause_said tokens templates said))).1

  pub parameters_whole : (xs : Option (Vec ParameterReference Global)) →
      MaybeSaid tokens templates parameters_clause (parameters_tree xs) →
      AreWholeTemplates (in_references (clause_terms parameter_reference xs))
  parameters_whole xs said = references_whole tokens templates (reference parameters) parameter_reference
      parameter_reference_tree one_parameter (codes "PARAMETERS" ∷ []) xs said

  attribute_whole : (x : AttributeTemplate) → Spelt tokens templates (Named attributes) (attribute_tree x) →
      AreWholeTemplates (in_template (attribute_term x))
  attribute_whole x said =
      let parts = body_said tokens templates attribute_clauses tt (named_said tokens templates said) in
      first_whole _ _ _ (ending_whole tokens templates whole x.registration parts.1)
      (both_whole (attribute_syntax_whole x.syntax parts.0.0)
      (both_whole (behaviours_whole x.behaviour parts.0.1.1.0) (parameters_whole x.parameters parts.0.1.1.1.0)))

  parameter_whole : (x : ParameterTemplate) → Spelt tokens templates (Named parameters) (parameter_tree x) →
      AreWholeTemplates (in_template (parameter_term x))
  parameter_whole x said =
      let parts = body_said tokens templates parameter_clauses tt (named_said tokens templates said) in
      first_whole _ _ _ (ending_whole tokens templates whole x.registration parts.1)
      (both_whole (parameter_syntax_whole x.syntax parts.0.1.0) (behaviours_whole x.behaviour parts.0.1.1.0))

  pub group_whole : (x : GroupTemplate) → Spelt tokens templates (Named groups) (group_tree x) →
      AreWholeTemplates (in_template (group_term x))
  group_whole x said =
      let parts = body_said tokens templates group_clauses tt (named_said tokens templates said) in
      first_whole _ _ _ (registered_whole tokens templates whole x.registration parts.1)
      (references_whole tokens templates (reference attributes) attribute_reference attribute_reference_tree
      one_attribute (codes "GROUP" ∷ codes "ELEMENTS" ∷ []) x.elements parts.0.0)

  pub action_whole : (x : ActionTemplate) → Spelt tokens templates (Named actions) (action_tree x) →
      AreWholeTemplates (in_template (action_term x))
  action_whole x said =
      let parts = body_said tokens templates action_clauses tt (named_said tokens templates said) in
      first_whole _ _ _ (registered_whole tokens templates whole x.registration parts.1)
      (both_whole (behaviours_whole x.behaviour parts.0.0) (parameters_whole x.parameters parts.0.1.1.0))

  -- fields of a notification
  joined : (xs : List Field) →
      AllByRecursion (λ (x : Field). AreWholeTemplates (in_reference (attribute_reference x.attribute))) xs →
      AreWholeTemplates (in_fields (field_terms xs))
  joined [] all = no_template
  joined (x ∷ xs) all = both_whole all.0 (joined xs all.1)

  fields_whole : (xs : Option (Vec Field Global)) →
      MaybeSaid tokens templates fields (optional_tree fields_tree xs) → AreWholeTemplates (in_fields (fields_of xs))
  fields_whole None said = no_template
  fields_whole (Some xs) said = joined xs.items (each_said tokens templates field field_tree
      (λ x. AreWholeTemplates (in_reference (attribute_reference x.attribute))) Empty xs.items
      (λ x one. one_attribute x.attribute (pair_said tokens templates one).1)
      (listed_said tokens templates (pair_said tokens templates said).1)).1

  information_whole : (x : Option Information) →
      MaybeSaid tokens templates information_clause (optional_tree (clause_tree information_tree) x) →
      AreWholeTemplates (in_fields (information_fields x))
  information_whole None said = no_template
  information_whole (Some x) said = fields_whole x.fields
      (maybe_said tokens templates (pair_said tokens templates (clause_said tokens templates said)).1)

  pub notification_whole : (x : NotificationTemplate) →
      Spelt tokens templates (Named notifications) (notification_tree x) →
      AreWholeTemplates (in_template (notification_term x))
  notification_whole x said =
      let parts = body_said tokens templates notification_clauses tt (named_said tokens templates said) in
      first_whole _ _ _ (registered_whole tokens templates whole x.registration parts.1)
      (both_whole (behaviours_whole x.behaviour parts.0.0)
      (both_whole (parameters_whole x.parameters parts.0.1.0) (information_whole x.information parts.0.1.1.0)))

  pub member_whole : (x : MemberTemplate) → Spelt tokens templates member (member_tree x) →
      AreWholeTemplates (in_template (member_placed x).template)
  member_whole (Behaviour x) said = behaviour_whole x
  member_whole (Attribute x) said =
      attribute_whole x (either_said tokens templates (either_said tokens templates said))
  member_whole (Parameter x) said = parameter_whole x
      (either_said tokens templates (either_said tokens templates (either_said tokens templates said)))
  member_whole (Group x) said = group_whole x (either_said tokens templates
      (either_said tokens templates (either_said tokens templates (either_said tokens templates said))))
  member_whole (Action x) said = action_whole x (either_said tokens templates (either_said tokens templates
      (either_said tokens templates (either_said tokens templates (either_said tokens templates said)))))
  member_whole (Notification x) said = notification_whole x (either_said tokens templates
      (either_said tokens templates (either_said tokens templates (either_said tokens templates
      (either_said tokens templates said)))))
