-- MemberTerms: attributes, parameters, groups, behaviours, actions and notifications that agree say one thing (X.722,
-- sections 8.5 and 8.7 to 8.11; docs/PROFILE.md, section 2).
use Rattle.std.specs.Prelude.{is_some, option_map}
use Rattle.std.proofs.Common.{◌≡◌, ℕ, List, [], ◌∷◌, None, Some, refl, ap}
use Rattle.token_grammar.specs.PartLaws.{IdentifiersAgree, ListsAgree, OptionsAgree}
use Rattle.gdmo_members.specs.declared.attribute.AttributeReference.{AttributeReference}
use Rattle.gdmo_members.specs.declared.attribute.AttributeReference.TheVariants.{Label as AttributeLabel}
use Rattle.gdmo_members.specs.declared.attribute.AttributeReference.TheVariants.{Template' as AttributeInLine}
use Rattle.gdmo_members.specs.declared.attribute.AttributeSyntax.{AttributeSyntax}
use Rattle.gdmo_members.specs.declared.attribute.AttributeSyntax.TheVariants.{TypeReference as AttributeType, Derived}
use Rattle.gdmo_members.specs.declared.attribute.AttributeTemplate.{Row_of-ParameterReference}
use Rattle.gdmo_members.specs.declared.attribute.AttributeTemplate.{end_of-ParameterReference}
use Rattle.gdmo_members.specs.declared.attribute.AttributeTemplate.{more_of-ParameterReference}
use Rattle.gdmo_members.specs.declared.attribute.AttributeTemplate.{Held-AttributeTemplate-parameters, None', Some'}
use Rattle.gdmo_members.specs.declared.member.MemberTemplate.{MemberTemplate}
use Rattle.gdmo_members.specs.declared.notification.Field.{Field as FieldText}
use Rattle.gdmo_members.specs.declared.parameter.ParameterReference.{ParameterReference}
use Rattle.gdmo_members.specs.declared.parameter.ParameterReference.TheVariants.{Label as ParameterLabel}
use Rattle.gdmo_members.specs.declared.parameter.ParameterReference.TheVariants.{Template' as ParameterInLine}
use Rattle.gdmo_members.specs.declared.parameter.ParameterSyntax.{ParameterSyntax}
use Rattle.gdmo_members.specs.declared.parameter.ParameterSyntax.TheVariants.{TypeReference as ParameterType, Attribute}
use Rattle.gdmo_members.specs.Agreement.{ActionsAgree, AttributeReferencesAgree, AttributeSyntaxesAgree}
use Rattle.gdmo_members.specs.Agreement.{AttributesAgree, FieldsAgree, GroupsAgree, HeldAgree, InformationAgrees}
use Rattle.gdmo_members.specs.Agreement.{MembersAgree, NotificationsAgree, ParameterReferencesAgree}
use Rattle.gdmo_members.specs.Agreement.{ParameterSyntaxesAgree, ParametersAgree, RowsAgree, VectorsAgree}
use Rattle.gdmo_members.specs.Agreement.{VectorsEqual, two_actions, two_attributes, two_behaviours, two_groups}
use Rattle.gdmo_members.specs.Agreement.{two_notifications, two_parameters}
use Rattle.gdmo_names.specs.MemberViews.{action_term, attribute_reference, attribute_syntax_term, attribute_term}
use Rattle.gdmo_names.specs.MemberViews.{behaviour_reference, behaviour_term, behaviour_terms, clause_terms}
use Rattle.gdmo_names.specs.MemberViews.{field_terms, fields_of, group_term, held_terms, identifier_term}
use Rattle.gdmo_names.specs.MemberViews.{information_fields, information_type, notification_term}
use Rattle.gdmo_names.specs.MemberViews.{parameter_reference, parameter_syntax_term, parameter_term, row_terms}
use Rattle.gdmo_names.specs.PartViews.{member_placed}
use Rattle.gdmo_names.specs.TemplateTerms.ReferenceTerm.{ByLabel, InLine}
use Rattle.gdmo_names.specs.TemplateTerms.ReferenceTerms.{Reference}
use Rattle.gdmo_names.specs.TemplateTerms.TemplateTerm.{Template}
use Rattle.gdmo_names.specs.TemplateTerms.BodyTerm.{ActionBody, AttributeBody, GroupBody, NotificationBody}
use Rattle.gdmo_names.specs.TemplateTerms.BodyTerm.{ParameterBody}
use Rattle.gdmo_names.specs.TemplateTerms.SyntaxTerm.{OfAttribute, OfType}
use Rattle.gdmo_names.specs.TemplateTerms.FieldTerms.{Field}
use Rattle.document_parts.specs.DocumentParts.{numbered_member}
use Rattle.accepted_laws.proofs.ListTerms.{SayOne, clauses_say, equal_clauses, identifiers_say, options_say}
use Rattle.accepted_laws.proofs.ListTerms.{tokens_say}

-- behaviours, and the identifier of a template that may have none
pub behaviours_say : SayOne (OptionsAgree VectorsEqual) behaviour_terms
behaviours_say x y a = equal_clauses behaviour_reference x y a

pub registrations_say : SayOne (OptionsAgree IdentifiersAgree) (option_map identifier_term)
registrations_say = options_say IdentifiersAgree identifier_term identifiers_say

-- attributes and parameters, each with templates of the other kind in line
mutual
  pub attribute_syntaxes_say : (x y : AttributeSyntax) → AttributeSyntaxesAgree x y →
      attribute_syntax_term x ≡ attribute_syntax_term y
  attribute_syntaxes_say (AttributeType x) (AttributeType y) a = λ i. OfType (a i)
  attribute_syntaxes_say (AttributeType _) (Derived _) a = absurd a
  attribute_syntaxes_say (Derived _) (AttributeType _) a = absurd a
  attribute_syntaxes_say (Derived x) (Derived y) a = ap OfAttribute (attribute_references_say x y a)

  pub attribute_references_say : (x y : AttributeReference) → AttributeReferencesAgree x y →
      attribute_reference x ≡ attribute_reference y
  attribute_references_say (AttributeLabel x) (AttributeLabel y) a = λ i. ByLabel (a i).label
  attribute_references_say (AttributeLabel _) (AttributeInLine _ _ _ _ _ _ _ _) a = absurd a
  attribute_references_say (AttributeInLine _ _ _ _ _ _ _ _) (AttributeLabel _) a = absurd a
  attribute_references_say (AttributeInLine _ document label syntax rules behaviour parameters registration)
      (AttributeInLine _ its_document its_label other further its_behaviour its_parameters its_registration) a =
      let labels = a.1 in
      let syntaxes = attribute_syntaxes_say syntax other a.2 in
      let matching = tokens_say rules further a.3 in
      let behaviours = behaviours_say behaviour its_behaviour a.4 in
      let failures = held_say parameters its_parameters a.5 in
      let registrations = registrations_say registration its_registration a.6 in
      λ i. InLine (Template (labels i) (registrations i)
      (AttributeBody (syntaxes i) (matching i) (behaviours i) (failures i)))

  pub parameter_syntaxes_say : (x y : ParameterSyntax) → ParameterSyntaxesAgree x y →
      parameter_syntax_term x ≡ parameter_syntax_term y
  parameter_syntaxes_say (ParameterType x) (ParameterType y) a = λ i. OfType (a i)
  parameter_syntaxes_say (ParameterType _) (Attribute _) a = absurd a
  parameter_syntaxes_say (Attribute _) (ParameterType _) a = absurd a
  parameter_syntaxes_say (Attribute x) (Attribute y) a = ap OfAttribute (attribute_references_say x y a)

  pub parameter_references_say : (x y : ParameterReference) → ParameterReferencesAgree x y →
      parameter_reference x ≡ parameter_reference y
  parameter_references_say (ParameterLabel x) (ParameterLabel y) a = λ i. ByLabel (a i).label
  parameter_references_say (ParameterLabel _) (ParameterInLine _ _ _ _ _ _ _) a = absurd a
  parameter_references_say (ParameterInLine _ _ _ _ _ _ _) (ParameterLabel _) a = absurd a
  parameter_references_say (ParameterInLine _ document label context syntax behaviour registration)
      (ParameterInLine _ its_document its_label its_context other its_behaviour its_registration) a =
      let labels = a.1 in
      let syntaxes = parameter_syntaxes_say syntax other a.3 in
      let behaviours = behaviours_say behaviour its_behaviour a.4 in
      let registrations = registrations_say registration its_registration a.5 in
      λ i. InLine (Template (labels i) (registrations i) (ParameterBody (syntaxes i) (behaviours i)))

  rows_say : {n m : _} (x : Row_of-ParameterReference n) (y : Row_of-ParameterReference m) → RowsAgree x y →
      row_terms x ≡ row_terms y
  rows_say end_of-ParameterReference end_of-ParameterReference a = refl
  rows_say end_of-ParameterReference (more_of-ParameterReference _ _) a = absurd a
  rows_say (more_of-ParameterReference _ _) end_of-ParameterReference a = absurd a
  rows_say (more_of-ParameterReference x xs) (more_of-ParameterReference y ys) a =
      let first = parameter_references_say x y a.0 in
      let others = rows_say xs ys a.1 in
      λ i. Reference (first i) (others i)

  held_say : (x y : Held-AttributeTemplate-parameters) → HeldAgree x y → held_terms x ≡ held_terms y
  held_say None' None' a = refl
  held_say None' (Some' _ _) a = absurd a
  held_say (Some' _ _) None' a = absurd a
  held_say (Some' _ row) (Some' _ other) a = rows_say row other a

pub parameters_say : SayOne (OptionsAgree (VectorsAgree ParameterReferencesAgree)) (clause_terms parameter_reference)
parameters_say = clauses_say ParameterReferencesAgree parameter_reference parameter_references_say

attributes_say : SayOne AttributesAgree attribute_term
attributes_say x y a =
    let labels = a.1 in
    let syntaxes = attribute_syntaxes_say x.syntax y.syntax a.2 in
    let matching = tokens_say x.rules y.rules a.3 in
    let behaviours = behaviours_say x.behaviour y.behaviour a.4 in
    let parameters = parameters_say x.parameters y.parameters a.5 in
    let registrations = registrations_say x.registration y.registration a.6 in
    λ i. Template (labels i) (registrations i)
    (AttributeBody (syntaxes i) (matching i) (behaviours i) (parameters i))

parameter_templates_say : SayOne ParametersAgree parameter_term
parameter_templates_say x y a =
    let labels = a.1 in
    let syntaxes = parameter_syntaxes_say x.syntax y.syntax a.3 in
    let behaviours = behaviours_say x.behaviour y.behaviour a.4 in
    let registrations = registrations_say x.registration y.registration a.5 in
    λ i. Template (labels i) (registrations i) (ParameterBody (syntaxes i) (behaviours i))

-- groups, actions and notifications
pub groups_say : SayOne GroupsAgree group_term
groups_say x y a =
    let labels = a.1 in
    let elements =
    clauses_say AttributeReferencesAgree attribute_reference attribute_references_say x.elements y.elements a.2 in
    let fixed = a.3 in
    let registrations = identifiers_say x.registration y.registration a.5 in
    λ i. Template (labels i) (Some (registrations i)) (GroupBody (elements i) (is_some (fixed i)))

pub actions_say : SayOne ActionsAgree action_term
actions_say x y a =
    let labels = a.1 in
    let behaviours = behaviours_say x.behaviour y.behaviour a.2 in
    let modes = a.3 in
    let parameters = parameters_say x.parameters y.parameters a.4 in
    let information = a.5 in
    let replies = a.6 in
    let registrations = identifiers_say x.registration y.registration a.7 in
    λ i. Template (labels i) (Some (registrations i))
    (ActionBody (behaviours i) (is_some (modes i)) (parameters i) (information i) (replies i))

field_lists_say : (xs ys : List FieldText) → ListsAgree FieldsAgree xs ys → field_terms xs ≡ field_terms ys
field_lists_say [] [] a = refl
field_lists_say [] (y ∷ ys) a = absurd a
field_lists_say (x ∷ xs) [] a = absurd a
field_lists_say (x ∷ xs) (y ∷ ys) a =
    let names = a.0.0 in
    let attributes = attribute_references_say x.attribute y.attribute a.0.1 in
    let others = field_lists_say xs ys a.1 in
    λ i. Field (names i) (attributes i) (others i)

fields_say : SayOne (OptionsAgree (VectorsAgree FieldsAgree)) fields_of
fields_say None None a = refl
fields_say None (Some _) a = absurd a
fields_say (Some _) None a = absurd a
fields_say (Some x) (Some y) a = field_lists_say x.items y.items a

types_say : SayOne (OptionsAgree InformationAgrees) information_type
types_say None None a = refl
types_say None (Some _) a = absurd a
types_say (Some _) None a = absurd a
types_say (Some x) (Some y) a = ap Some a.0

information_say : SayOne (OptionsAgree InformationAgrees) information_fields
information_say None None a = refl
information_say None (Some _) a = absurd a
information_say (Some _) None a = absurd a
information_say (Some x) (Some y) a = fields_say x.fields y.fields a.1

pub notifications_say : SayOne NotificationsAgree notification_term
notifications_say x y a =
    let labels = a.1 in
    let behaviours = behaviours_say x.behaviour y.behaviour a.2 in
    let parameters = parameters_say x.parameters y.parameters a.3 in
    let types = types_say x.information y.information a.4 in
    let fields = information_say x.information y.information a.4 in
    let replies = a.5 in
    let registrations = identifiers_say x.registration y.registration a.6 in
    λ i. Template (labels i) (Some (registrations i))
    (NotificationBody (behaviours i) (parameters i) (types i) (fields i) (replies i))

-- templates that don't stand in line, with the number of their document
members_in_turn : (n : ℕ) {x y : MemberTemplate} → MembersAgree x y →
    member_placed (numbered_member n x) ≡ member_placed (numbered_member n y)
members_in_turn n (two_behaviours a) = λ i. record { document = n; template = behaviour_term (a i) }
members_in_turn n (two_attributes {x} {y} a) =
    let same = attributes_say x y a in
    λ i. record { document = n; template = same i }
members_in_turn n (two_parameters {x} {y} a) =
    let same = parameter_templates_say x y a in
    λ i. record { document = n; template = same i }
members_in_turn n (two_groups {x} {y} a) =
    let same = groups_say x y a in
    λ i. record { document = n; template = same i }
members_in_turn n (two_actions {x} {y} a) =
    let same = actions_say x y a in
    λ i. record { document = n; template = same i }
members_in_turn n (two_notifications {x} {y} a) =
    let same = notifications_say x y a in
    λ i. record { document = n; template = same i }

pub members_say : (n : ℕ) → SayOne MembersAgree (λ x. member_placed (numbered_member n x))
members_say n x y a = members_in_turn n a
