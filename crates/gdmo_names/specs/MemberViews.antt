-- MemberViews: what the texts of attributes, parameters, groups, behaviours, actions and notifications say, as the
-- terms of TemplateTerms (X.722, sections 8.5 and 8.7 to 8.11; docs/PROFILE.md, section 2).
use Rattle.std.specs.Prelude.{List, [], ◌∷◌, Option, None, Some, map, option_map, is_some}
use Rattle.std.specs.declared.alloc.Global.{Global}
use Rattle.std.specs.declared.vec.Vec.{Vec}
use Rattle.token_grammar.specs.declared.object_identifier.Arc.{Arc}
use Rattle.token_grammar.specs.declared.object_identifier.Arc.TheVariants.{Number, Named}
use Rattle.token_grammar.specs.declared.object_identifier.FirstArc.{FirstArc}
use Rattle.token_grammar.specs.declared.object_identifier.FirstArc.TheVariants.{OfArc, Name}
use Rattle.token_grammar.specs.declared.object_identifier.ObjectIdentifier.{ObjectIdentifier}
use Rattle.token_grammar.specs.declared.qualified_name.QualifiedName.{QualifiedName}
use Rattle.token_grammar.specs.declared.token.Token.{Token}
use Rattle.gdmo_members.specs.declared.action.ActionTemplate.{ActionTemplate}
use Rattle.gdmo_members.specs.declared.attribute.AttributeReference.{AttributeReference}
use Rattle.gdmo_members.specs.declared.attribute.AttributeReference.TheVariants.{Label as AttributeLabel}
use Rattle.gdmo_members.specs.declared.attribute.AttributeReference.TheVariants.{Template' as AttributeInLine}
use Rattle.gdmo_members.specs.declared.attribute.AttributeSyntax.{AttributeSyntax}
use Rattle.gdmo_members.specs.declared.attribute.AttributeSyntax.TheVariants.{TypeReference as AttributeType, Derived}
use Rattle.gdmo_members.specs.declared.attribute.AttributeTemplate.{AttributeTemplate, Row_of-ParameterReference}
use Rattle.gdmo_members.specs.declared.attribute.AttributeTemplate.{end_of-ParameterReference}
use Rattle.gdmo_members.specs.declared.attribute.AttributeTemplate.{more_of-ParameterReference}
use Rattle.gdmo_members.specs.declared.attribute.AttributeTemplate.{Held-AttributeTemplate-parameters, None', Some'}
use Rattle.gdmo_members.specs.declared.behaviour.BehaviourReference.{BehaviourReference}
use Rattle.gdmo_members.specs.declared.behaviour.BehaviourReference.TheVariants.{Label as BehaviourLabel}
use Rattle.gdmo_members.specs.declared.behaviour.BehaviourReference.TheVariants.{Template as BehaviourInLine}
use Rattle.gdmo_members.specs.declared.behaviour.BehaviourTemplate.{BehaviourTemplate}
use Rattle.gdmo_members.specs.declared.group.GroupTemplate.{GroupTemplate}
use Rattle.gdmo_members.specs.declared.notification.Field.{Field as FieldText}
use Rattle.gdmo_members.specs.declared.notification.Information.{Information}
use Rattle.gdmo_members.specs.declared.notification.NotificationTemplate.{NotificationTemplate}
use Rattle.gdmo_members.specs.declared.parameter.ParameterReference.{ParameterReference}
use Rattle.gdmo_members.specs.declared.parameter.ParameterReference.TheVariants.{Label as ParameterLabel}
use Rattle.gdmo_members.specs.declared.parameter.ParameterReference.TheVariants.{Template' as ParameterInLine}
use Rattle.gdmo_members.specs.declared.parameter.ParameterSyntax.{ParameterSyntax}
use Rattle.gdmo_members.specs.declared.parameter.ParameterSyntax.TheVariants.{TypeReference as ParameterType, Attribute}
use Rattle.gdmo_members.specs.declared.parameter.ParameterTemplate.{ParameterTemplate}
use Rattle.gdmo_names.specs.TemplateTerms.{FirstTerm, IdentifierTerm, ReferenceTerm, ReferenceTerms, TemplateTerm}
use Rattle.gdmo_names.specs.TemplateTerms.{SyntaxTerm, FieldTerms}
use Rattle.gdmo_names.specs.TemplateTerms.FirstTerm.{ArcNumber, ArcName}
use Rattle.gdmo_names.specs.TemplateTerms.ReferenceTerm.{ByLabel, InLine}
use Rattle.gdmo_names.specs.TemplateTerms.ReferenceTerms.{NoReferences, Reference}
use Rattle.gdmo_names.specs.TemplateTerms.TemplateTerm.{Template}
use Rattle.gdmo_names.specs.TemplateTerms.BodyTerm.{ParameterBody, AttributeBody, GroupBody, BehaviourBody}
use Rattle.gdmo_names.specs.TemplateTerms.BodyTerm.{ActionBody, NotificationBody}
use Rattle.gdmo_names.specs.TemplateTerms.SyntaxTerm.{OfType, OfAttribute}
use Rattle.gdmo_names.specs.TemplateTerms.FieldTerms.{NoFields, Field}

-- identifiers
abbrev pub arc_number : Arc → Token
arc_number (Number number) = number
arc_number (Named name number) = number

abbrev pub first_term : FirstArc → FirstTerm
first_term (OfArc arc) = ArcNumber (arc_number arc)
first_term (Name name) = ArcName name

abbrev pub identifier_term : ObjectIdentifier → IdentifierTerm
identifier_term x = record { brace = x.brace; first = first_term x.first; others = map arc_number x.others.items }

-- references in a row, and those of a clause, none where it doesn't stand
abbrev pub reference_terms : {X : Type 0} → (X → ReferenceTerm) → List X → ReferenceTerms
reference_terms view [] = NoReferences
reference_terms view (x ∷ xs) = Reference (view x) (reference_terms view xs)

abbrev pub clause_terms : {X : Type 0} → (X → ReferenceTerm) → Option (Vec X Global) → ReferenceTerms
clause_terms view None = NoReferences
clause_terms view (Some xs) = reference_terms view xs.items

abbrev pub clause_tokens : Option (Vec Token Global) → List Token
clause_tokens None = []
clause_tokens (Some xs) = xs.items

-- behaviours
abbrev pub behaviour_term : BehaviourTemplate → TemplateTerm
behaviour_term x = Template x.label None BehaviourBody

abbrev pub behaviour_reference : BehaviourReference → ReferenceTerm
behaviour_reference (BehaviourLabel x) = ByLabel x.label
behaviour_reference (BehaviourInLine x) = InLine (behaviour_term x)

abbrev pub behaviour_terms : Option (Vec BehaviourReference Global) → ReferenceTerms
behaviour_terms x = clause_terms behaviour_reference x

-- attributes and parameters
abbrev mutual
  pub attribute_syntax_term : AttributeSyntax → SyntaxTerm
  attribute_syntax_term (AttributeType name) = OfType name
  attribute_syntax_term (Derived base) = OfAttribute (attribute_reference base)

  pub attribute_reference : AttributeReference → ReferenceTerm
  attribute_reference (AttributeLabel x) = ByLabel x.label
  attribute_reference (AttributeInLine place document label syntax rules behaviour parameters registration) =
      InLine (Template label (option_map identifier_term registration)
      (AttributeBody (attribute_syntax_term syntax) (clause_tokens rules) (behaviour_terms behaviour)
      (held_terms parameters)))

  pub parameter_syntax_term : ParameterSyntax → SyntaxTerm
  parameter_syntax_term (ParameterType name) = OfType name
  parameter_syntax_term (Attribute attribute) = OfAttribute (attribute_reference attribute)

  pub parameter_reference : ParameterReference → ReferenceTerm
  parameter_reference (ParameterLabel x) = ByLabel x.label
  parameter_reference (ParameterInLine place document label context syntax behaviour registration) =
      InLine (Template label (option_map identifier_term registration)
      (ParameterBody (parameter_syntax_term syntax) (behaviour_terms behaviour)))

  pub row_terms : {n : _} → Row_of-ParameterReference n → ReferenceTerms
  row_terms end_of-ParameterReference = NoReferences
  row_terms (more_of-ParameterReference parameter others) =
      Reference (parameter_reference parameter) (row_terms others)

  pub held_terms : Held-AttributeTemplate-parameters → ReferenceTerms
  held_terms None' = NoReferences
  held_terms (Some' shape row) = row_terms row

abbrev pub attribute_term : AttributeTemplate → TemplateTerm
attribute_term x = Template x.label (option_map identifier_term x.registration)
    (AttributeBody (attribute_syntax_term x.syntax) (clause_tokens x.rules) (behaviour_terms x.behaviour)
    (clause_terms parameter_reference x.parameters))

abbrev pub parameter_term : ParameterTemplate → TemplateTerm
parameter_term x = Template x.label (option_map identifier_term x.registration)
    (ParameterBody (parameter_syntax_term x.syntax) (behaviour_terms x.behaviour))

-- groups, actions and notifications
abbrev pub group_term : GroupTemplate → TemplateTerm
group_term x = Template x.label (Some (identifier_term x.registration))
    (GroupBody (clause_terms attribute_reference x.elements) (is_some x.fixed))

abbrev pub action_term : ActionTemplate → TemplateTerm
action_term x = Template x.label (Some (identifier_term x.registration))
    (ActionBody (behaviour_terms x.behaviour) (is_some x.mode) (clause_terms parameter_reference x.parameters)
    x.information x.reply)

abbrev pub field_terms : List FieldText → FieldTerms
field_terms [] = NoFields
field_terms (x ∷ xs) = Field x.name (attribute_reference x.attribute) (field_terms xs)

abbrev pub fields_of : Option (Vec FieldText Global) → FieldTerms
fields_of None = NoFields
fields_of (Some xs) = field_terms xs.items

abbrev pub information_type : Option Information → Option QualifiedName
information_type x = option_map (λ y. y.syntax) x

abbrev pub information_fields : Option Information → FieldTerms
information_fields None = NoFields
information_fields (Some x) = fields_of x.fields

abbrev pub notification_term : NotificationTemplate → TemplateTerm
notification_term x = Template x.label (Some (identifier_term x.registration))
    (NotificationBody (behaviour_terms x.behaviour) (clause_terms parameter_reference x.parameters)
    (information_type x.information) (information_fields x.information) x.reply)
