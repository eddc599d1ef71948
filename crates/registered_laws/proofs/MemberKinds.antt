-- MemberKinds: the templates of attributes, parameters, groups, actions and notifications, and those in line in them,
-- are those of texts, and registered where their kind always is (X.722, sections 8.5 and 8.7 to 8.11).
use Rattle.std.proofs.Common.{◌≡◌, List, [], ◌∷◌, ◌++◌, Option, None, Some, refl, sym, ◌∙◌}
use Rattle.std.specs.Prelude.{All, Bool, false, true}
use Rattle.std.specs.declared.alloc.Global.{Global}
use Rattle.std.specs.declared.vec.Vec.{Vec}
use Rattle.std.proofs.lemmas.Bool.{false≢true}
use Rattle.std.proofs.lemmas.List.Elements.{All-append, All-cons, All-nil}
use Rattle.token_grammar.specs.declared.token.Token.{Token}
use Rattle.gdmo_members.specs.declared.action.ActionTemplate.{ActionTemplate}
use Rattle.gdmo_members.specs.declared.attribute.AttributeReference.{AttributeReference}
use Rattle.gdmo_members.specs.declared.attribute.AttributeReference.TheVariants.{Label as ALabel}
use Rattle.gdmo_members.specs.declared.attribute.AttributeReference.TheVariants.{Template' as ATemplate}
use Rattle.gdmo_members.specs.declared.attribute.AttributeSyntax.{AttributeSyntax}
use Rattle.gdmo_members.specs.declared.attribute.AttributeSyntax.TheVariants.{TypeReference as AType, Derived}
use Rattle.gdmo_members.specs.declared.attribute.AttributeTemplate.{AttributeTemplate, Row_of-ParameterReference}
use Rattle.gdmo_members.specs.declared.attribute.AttributeTemplate.{end_of-ParameterReference}
use Rattle.gdmo_members.specs.declared.attribute.AttributeTemplate.{more_of-ParameterReference}
use Rattle.gdmo_members.specs.declared.attribute.AttributeTemplate.{Held-AttributeTemplate-parameters, None', Some'}
use Rattle.gdmo_members.specs.declared.behaviour.BehaviourReference.{BehaviourReference}
use Rattle.gdmo_members.specs.declared.behaviour.BehaviourReference.TheVariants.{Label as BLabel, Template as BTemplate}
use Rattle.gdmo_members.specs.declared.behaviour.BehaviourTemplate.{BehaviourTemplate}
use Rattle.gdmo_members.specs.declared.group.GroupTemplate.{GroupTemplate}
use Rattle.gdmo_members.specs.declared.member.MemberTemplate.{MemberTemplate}
use Rattle.gdmo_members.specs.declared.member.MemberTemplate.TheVariants.{Attribute, Group, Action, Notification}
use Rattle.gdmo_members.specs.declared.member.MemberTemplate.TheVariants.{Parameter, Behaviour}
use Rattle.gdmo_members.specs.declared.notification.Field.{Field}
use Rattle.gdmo_members.specs.declared.notification.Information.{Information}
use Rattle.gdmo_members.specs.declared.notification.NotificationTemplate.{NotificationTemplate}
use Rattle.gdmo_members.specs.declared.parameter.ParameterReference.{ParameterReference}
use Rattle.gdmo_members.specs.declared.parameter.ParameterReference.TheVariants.{Label as PLabel}
use Rattle.gdmo_members.specs.declared.parameter.ParameterReference.TheVariants.{Template' as PTemplate}
use Rattle.gdmo_members.specs.declared.parameter.ParameterSyntax.{ParameterSyntax}
use Rattle.gdmo_members.specs.declared.parameter.ParameterSyntax.TheVariants.{TypeReference as PType}
use Rattle.gdmo_members.specs.declared.parameter.ParameterSyntax.TheVariants.{Attribute as PAttribute}
use Rattle.gdmo_members.specs.declared.parameter.ParameterTemplate.{ParameterTemplate}
use Rattle.gdmo_names.specs.DocumentTemplates.{in_body, in_fields, in_reference, in_references, in_syntax, in_template}
use Rattle.gdmo_names.specs.MemberViews.{action_term, attribute_reference, attribute_syntax_term, attribute_term}
use Rattle.gdmo_names.specs.MemberViews.{behaviour_reference, behaviour_term, behaviour_terms, clause_terms}
use Rattle.gdmo_names.specs.MemberViews.{field_terms, fields_of, group_term, held_terms, identifier_term}
use Rattle.gdmo_names.specs.MemberViews.{information_fields, notification_term, parameter_reference}
use Rattle.gdmo_names.specs.MemberViews.{parameter_syntax_term, parameter_term, reference_terms, row_terms}
use Rattle.gdmo_names.specs.PartTerms.{body_of, kind_of_body}
use Rattle.gdmo_names.specs.PartViews.{member_placed}
use Rattle.gdmo_names.specs.TemplateTerms.{BodyTerm, IdentifierTerm, ReferenceTerm, TemplateTerm}
use Rattle.gdmo_names.specs.TemplateTerms.BodyTerm.{NotificationBody}
use Rattle.gdmo_names.specs.TemplateTerms.TemplateTerm.{Template}
use Rattle.registered_laws.specs.RegisteredKinds.{IsRegisteredKind, is_always_registered}

abbrev pub is_notification : BodyTerm → Bool
is_notification (NotificationBody _ _ _ _ _) = true
is_notification _ = false

-- what the template of a text is: one of a kind that need not be registered, one that is registered and no
-- notification, or that of a notification's text
pub data IsOfText : TemplateTerm → Type 0 where
  of_other_kind : (label : Token) (identifier : Option IdentifierTerm) (body : BodyTerm) →
      is_always_registered (kind_of_body body) ≡ false → IsOfText (Template label identifier body)
  of_registered : (label : Token) (own : IdentifierTerm) (body : BodyTerm) → is_notification body ≡ false →
      IsOfText (Template label (Some own) body)
  of_notification : (x : NotificationTemplate) → IsOfText (notification_term x)

pub is_registered : (x : TemplateTerm) → IsOfText x → IsRegisteredKind x
is_registered _ (of_other_kind label identifier body other) always = absurd (false≢true (sym other ∙ always))
is_registered _ (of_registered label own body other) always = (own, refl)
is_registered _ (of_notification x) always = (identifier_term x.registration, refl)

pub record AreOfKinds (xs : List TemplateTerm) : Type 0 where
  pub all : All IsOfText xs

pub no_template : AreOfKinds []
no_template = record { all = All-nil IsOfText }

pub both_kinds : {xs ys : List TemplateTerm} → AreOfKinds xs → AreOfKinds ys → AreOfKinds (xs ++ ys)
both_kinds {xs} {ys} one two = record { all = All-append IsOfText xs ys one.all two.all }

-- a template of another kind, before those in line in it
pub other_first : (label : Token) (identifier : Option IdentifierTerm) (body : BodyTerm) →
    is_always_registered (kind_of_body body) ≡ false → AreOfKinds (in_body body) →
    AreOfKinds (in_template (Template label identifier body))
other_first label identifier body other others = record {
  all = All-cons IsOfText (Template label identifier body) (in_body body)
      (of_other_kind label identifier body other) others.all;
}

-- a template that is registered
pub own_first : (label : Token) (own : IdentifierTerm) (body : BodyTerm) → is_notification body ≡ false →
    AreOfKinds (in_body body) → AreOfKinds (in_template (Template label (Some own) body))
own_first label own body other others = record {
  all = All-cons IsOfText (Template label (Some own) body) (in_body body) (of_registered label own body other)
      others.all;
}

-- references in a row
pub row_kinds : {X : Type 0} (reference : X → ReferenceTerm) → ((x : X) → AreOfKinds (in_reference (reference x))) →
    (xs : List X) → AreOfKinds (in_references (reference_terms reference xs))
row_kinds reference each [] = no_template
row_kinds reference each (x ∷ xs) = both_kinds (each x) (row_kinds reference each xs)

pub clause_kinds : {X : Type 0} (reference : X → ReferenceTerm) → ((x : X) → AreOfKinds (in_reference (reference x))) →
    (xs : Option (Vec X Global)) → AreOfKinds (in_references (clause_terms reference xs))
clause_kinds reference each None = no_template
clause_kinds reference each (Some xs) = row_kinds reference each xs.items

-- ---- behaviours

behaviour_kinds : (x : BehaviourTemplate) → AreOfKinds (in_template (behaviour_term x))
behaviour_kinds x = other_first _ _ _ refl no_template

pub one_behaviour : (x : BehaviourReference) → AreOfKinds (in_reference (behaviour_reference x))
one_behaviour (BLabel x) = no_template
one_behaviour (BTemplate x) = behaviour_kinds x

pub behaviours_kinds : (xs : Option (Vec BehaviourReference Global)) → AreOfKinds (in_references (behaviour_terms xs))
behaviours_kinds xs = clause_kinds behaviour_reference one_behaviour xs

-- ---- attributes and parameters

mutual
  attribute_syntax_kinds : (x : AttributeSyntax) → AreOfKinds (in_syntax (attribute_syntax_term x))
  attribute_syntax_kinds (AType name) = no_template
  attribute_syntax_kinds (Derived base) = one_attribute base

  pub one_attribute : (x : AttributeReference) → AreOfKinds (in_reference (attribute_reference x))
  one_attribute (ALabel x) = no_template
  one_attribute (ATemplate place document label syntax rules behaviour parameters registration) =
      other_first _ _ _ refl (both_kinds (attribute_syntax_kinds syntax)
      (both_kinds (behaviours_kinds behaviour) (held_kinds parameters)))

  parameter_syntax_kinds : (x : ParameterSyntax) → AreOfKinds (in_syntax (parameter_syntax_term x))
  parameter_syntax_kinds (PType name) = no_template
  parameter_syntax_kinds (PAttribute attribute) = one_attribute attribute

  pub one_parameter : (x : ParameterReference) → AreOfKinds (in_reference (parameter_reference x))
  one_parameter (PLabel x) = no_template
  one_parameter (PTemplate place document label context syntax behaviour registration) =
      other_first _ _ _ refl (both_kinds (parameter_syntax_kinds syntax) (behaviours_kinds behaviour))

  row_of_kinds : {n : _} (row : Row_of-ParameterReference n) → AreOfKinds (in_references (row_terms row))
  row_of_kinds end_of-ParameterReference = no_template
  row_of_kinds (more_of-ParameterReference parameter others) =
      both_kinds (one_parameter parameter) (row_of_kinds others)

  held_kinds : (x : Held-AttributeTemplate-parameters) → AreOfKinds (in_references (held_terms x))
  held_kinds None' = no_template
  held_kinds (Some' shape row) = row_of_kinds row

parameters_kinds : (xs : Option (Vec ParameterReference Global)) →
    AreOfKinds (in_references (clause_terms parameter_reference xs))
parameters_kinds xs = clause_kinds parameter_reference one_parameter xs

attribute_kinds : (x : AttributeTemplate) → AreOfKinds (in_template (attribute_term x))
attribute_kinds x = other_first _ _ _ refl (both_kinds (attribute_syntax_kinds x.syntax)
    (both_kinds (behaviours_kinds x.behaviour) (parameters_kinds x.parameters)))

parameter_kinds : (x : ParameterTemplate) → AreOfKinds (in_template (parameter_term x))
parameter_kinds x =
    other_first _ _ _ refl (both_kinds (parameter_syntax_kinds x.syntax) (behaviours_kinds x.behaviour))

-- ---- groups, actions and notifications

pub group_kinds : (x : GroupTemplate) → AreOfKinds (in_template (group_term x))
group_kinds x = own_first _ _ _ refl (clause_kinds attribute_reference one_attribute x.elements)

pub action_kinds : (x : ActionTemplate) → AreOfKinds (in_template (action_term x))
action_kinds x = own_first _ _ _ refl (both_kinds (behaviours_kinds x.behaviour) (parameters_kinds x.parameters))

fields_kinds : (xs : List Field) → AreOfKinds (in_fields (field_terms xs))
fields_kinds [] = no_template
fields_kinds (x ∷ xs) = both_kinds (one_attribute x.attribute) (fields_kinds xs)

clause_fields : (xs : Option (Vec Field Global)) → AreOfKinds (in_fields (fields_of xs))
clause_fields None = no_template
clause_fields (Some xs) = fields_kinds xs.items

information_kinds : (x : Option Information) → AreOfKinds (in_fields (information_fields x))
information_kinds None = no_template
information_kinds (Some x) = clause_fields x.fields

pub notification_kinds : (x : NotificationTemplate) → AreOfKinds (in_template (notification_term x))
notification_kinds x =
    let others = both_kinds (behaviours_kinds x.behaviour)
    (both_kinds (parameters_kinds x.parameters) (information_kinds x.information)) in
    record {
      all = All-cons IsOfText (notification_term x) (in_body (body_of (notification_term x))) (of_notification x)
          others.all;
    }

pub member_kinds : (x : MemberTemplate) → AreOfKinds (in_template (member_placed x).template)
member_kinds (Behaviour x) = behaviour_kinds x
member_kinds (Attribute x) = attribute_kinds x
member_kinds (Parameter x) = parameter_kinds x
member_kinds (Group x) = group_kinds x
member_kinds (Action x) = action_kinds x
member_kinds (Notification x) = notification_kinds x
