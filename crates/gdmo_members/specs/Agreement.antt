-- Agreement: two templates are equal in all but the place and the capacity of the memory of their lists
-- and of their templates in line, which no text says (X.722, section 8).
use Rattle.std.specs.Prelude.{◌≡◌}
use Rattle.std.specs.declared.alloc.Global.{Global}
use Rattle.std.specs.declared.vec.Vec.{Vec}
use Rattle.token_grammar.specs.PartLaws.{IdentifiersAgree, ListsAgree, OptionsAgree}
use Rattle.gdmo_members.specs.declared.behaviour.BehaviourTemplate.{BehaviourTemplate}
use Rattle.gdmo_members.specs.declared.context.Context.{Context}
use Rattle.gdmo_members.specs.declared.attribute.AttributeTemplate.{AttributeTemplate, Row_of-ParameterReference}
use Rattle.gdmo_members.specs.declared.attribute.AttributeTemplate.{end_of-ParameterReference}
use Rattle.gdmo_members.specs.declared.attribute.AttributeTemplate.{more_of-ParameterReference}
use Rattle.gdmo_members.specs.declared.attribute.AttributeTemplate.{Held-AttributeTemplate-parameters, None', Some'}
use Rattle.gdmo_members.specs.declared.attribute.AttributeSyntax.{AttributeSyntax}
use Rattle.gdmo_members.specs.declared.attribute.AttributeSyntax.TheVariants.{TypeReference as AType, Derived}
use Rattle.gdmo_members.specs.declared.attribute.AttributeReference.{AttributeReference}
use Rattle.gdmo_members.specs.declared.attribute.AttributeReference.TheVariants.{Label as ALabel}
use Rattle.gdmo_members.specs.declared.attribute.AttributeReference.TheVariants.{Template' as ATemplate}
use Rattle.gdmo_members.specs.declared.parameter.ParameterTemplate.{ParameterTemplate}
use Rattle.gdmo_members.specs.declared.parameter.ParameterSyntax.{ParameterSyntax}
use Rattle.gdmo_members.specs.declared.parameter.ParameterSyntax.TheVariants.{TypeReference as PType}
use Rattle.gdmo_members.specs.declared.parameter.ParameterSyntax.TheVariants.{Attribute as OfAttribute}
use Rattle.gdmo_members.specs.declared.parameter.ParameterReference.{ParameterReference}
use Rattle.gdmo_members.specs.declared.parameter.ParameterReference.TheVariants.{Label as PLabel}
use Rattle.gdmo_members.specs.declared.parameter.ParameterReference.TheVariants.{Template' as PTemplate}
use Rattle.gdmo_members.specs.declared.group.GroupTemplate.{GroupTemplate}
use Rattle.gdmo_members.specs.declared.action.ActionTemplate.{ActionTemplate}
use Rattle.gdmo_members.specs.declared.notification.Field.{Field}
use Rattle.gdmo_members.specs.declared.notification.Information.{Information}
use Rattle.gdmo_members.specs.declared.notification.NotificationTemplate.{NotificationTemplate}
use Rattle.gdmo_members.specs.declared.member.MemberTemplate.{MemberTemplate}
use Rattle.gdmo_members.specs.declared.member.MemberTemplate.TheVariants.{Attribute, Group, Action, Notification}
use Rattle.gdmo_members.specs.declared.member.MemberTemplate.TheVariants.{Parameter, Behaviour}

-- the same parts, or parts that agree, one by one
abbrev pub VectorsEqual : {X : Type 0} → Vec X Global → Vec X Global → Type 0
VectorsEqual x y = x.items ≡ y.items

abbrev pub VectorsAgree : {X : Type 0} → (X → X → Type 0) → Vec X Global → Vec X Global → Type 0
VectorsAgree agree x y = ListsAgree agree x.items y.items

abbrev pub ContextsAgree : Context → Context → Type 0
ContextsAgree x y = (x.first ≡ y.first) × VectorsEqual x.others y.others

-- attributes and parameters, each with templates of the other kind in line
abbrev mutual
  pub AttributeSyntaxesAgree : AttributeSyntax → AttributeSyntax → Type 0
  AttributeSyntaxesAgree (AType x) (AType y) = x ≡ y
  AttributeSyntaxesAgree (AType x) (Derived y) = ⊥
  AttributeSyntaxesAgree (Derived x) (AType y) = ⊥
  AttributeSyntaxesAgree (Derived x) (Derived y) = AttributeReferencesAgree x y

  pub AttributeReferencesAgree : AttributeReference → AttributeReference → Type 0
  AttributeReferencesAgree (ALabel x) (ALabel y) = x ≡ y
  AttributeReferencesAgree (ALabel x) (ATemplate _ _ _ _ _ _ _ _) = ⊥
  AttributeReferencesAgree (ATemplate _ _ _ _ _ _ _ _) (ALabel y) = ⊥
  AttributeReferencesAgree (ATemplate _ document label syntax rules behaviour parameters registration)
      (ATemplate _ document' label' syntax' rules' behaviour' parameters' registration') =
      (document ≡ document')
      × (label ≡ label')
      × AttributeSyntaxesAgree syntax syntax'
      × OptionsAgree VectorsEqual rules rules'
      × OptionsAgree VectorsEqual behaviour behaviour'
      × HeldAgree parameters parameters'
      × OptionsAgree IdentifiersAgree registration registration'

  pub ParameterSyntaxesAgree : ParameterSyntax → ParameterSyntax → Type 0
  ParameterSyntaxesAgree (PType x) (PType y) = x ≡ y
  ParameterSyntaxesAgree (PType x) (OfAttribute y) = ⊥
  ParameterSyntaxesAgree (OfAttribute x) (PType y) = ⊥
  ParameterSyntaxesAgree (OfAttribute x) (OfAttribute y) = AttributeReferencesAgree x y

  pub ParameterReferencesAgree : ParameterReference → ParameterReference → Type 0
  ParameterReferencesAgree (PLabel x) (PLabel y) = x ≡ y
  ParameterReferencesAgree (PLabel x) (PTemplate _ _ _ _ _ _ _) = ⊥
  ParameterReferencesAgree (PTemplate _ _ _ _ _ _ _) (PLabel y) = ⊥
  ParameterReferencesAgree (PTemplate _ document label context syntax behaviour registration)
      (PTemplate _ document' label' context' syntax' behaviour' registration') =
      (document ≡ document')
      × (label ≡ label')
      × ContextsAgree context context'
      × ParameterSyntaxesAgree syntax syntax'
      × OptionsAgree VectorsEqual behaviour behaviour'
      × OptionsAgree IdentifiersAgree registration registration'

  pub RowsAgree : {n m : _} → Row_of-ParameterReference n → Row_of-ParameterReference m → Type 0
  RowsAgree end_of-ParameterReference end_of-ParameterReference = Unit {0}
  RowsAgree end_of-ParameterReference (more_of-ParameterReference y ys) = ⊥
  RowsAgree (more_of-ParameterReference x xs) end_of-ParameterReference = ⊥
  RowsAgree (more_of-ParameterReference x xs) (more_of-ParameterReference y ys) =
      ParameterReferencesAgree x y × RowsAgree xs ys

  pub HeldAgree : Held-AttributeTemplate-parameters → Held-AttributeTemplate-parameters → Type 0
  HeldAgree None' None' = Unit {0}
  HeldAgree None' (Some' _ _) = ⊥
  HeldAgree (Some' _ _) None' = ⊥
  HeldAgree (Some' _ row) (Some' _ row') = RowsAgree row row'

abbrev pub AttributesAgree : AttributeTemplate → AttributeTemplate → Type 0
AttributesAgree x y =
    (x.document ≡ y.document)
    × (x.label ≡ y.label)
    × AttributeSyntaxesAgree x.syntax y.syntax
    × OptionsAgree VectorsEqual x.rules y.rules
    × OptionsAgree VectorsEqual x.behaviour y.behaviour
    × OptionsAgree (VectorsAgree ParameterReferencesAgree) x.parameters y.parameters
    × OptionsAgree IdentifiersAgree x.registration y.registration

abbrev pub ParametersAgree : ParameterTemplate → ParameterTemplate → Type 0
ParametersAgree x y =
    (x.document ≡ y.document)
    × (x.label ≡ y.label)
    × ContextsAgree x.context y.context
    × ParameterSyntaxesAgree x.syntax y.syntax
    × OptionsAgree VectorsEqual x.behaviour y.behaviour
    × OptionsAgree IdentifiersAgree x.registration y.registration

abbrev pub GroupsAgree : GroupTemplate → GroupTemplate → Type 0
GroupsAgree x y =
    (x.document ≡ y.document)
    × (x.label ≡ y.label)
    × OptionsAgree (VectorsAgree AttributeReferencesAgree) x.elements y.elements
    × (x.fixed ≡ y.fixed)
    × (x.description ≡ y.description)
    × IdentifiersAgree x.registration y.registration

abbrev pub ActionsAgree : ActionTemplate → ActionTemplate → Type 0
ActionsAgree x y =
    (x.document ≡ y.document)
    × (x.label ≡ y.label)
    × OptionsAgree VectorsEqual x.behaviour y.behaviour
    × (x.mode ≡ y.mode)
    × OptionsAgree (VectorsAgree ParameterReferencesAgree) x.parameters y.parameters
    × (x.information ≡ y.information)
    × (x.reply ≡ y.reply)
    × IdentifiersAgree x.registration y.registration

abbrev pub FieldsAgree : Field → Field → Type 0
FieldsAgree x y = (x.name ≡ y.name) × AttributeReferencesAgree x.attribute y.attribute

abbrev pub InformationAgrees : Information → Information → Type 0
InformationAgrees x y = (x.syntax ≡ y.syntax) × OptionsAgree (VectorsAgree FieldsAgree) x.fields y.fields

abbrev pub NotificationsAgree : NotificationTemplate → NotificationTemplate → Type 0
NotificationsAgree x y =
    (x.document ≡ y.document)
    × (x.label ≡ y.label)
    × OptionsAgree VectorsEqual x.behaviour y.behaviour
    × OptionsAgree (VectorsAgree ParameterReferencesAgree) x.parameters y.parameters
    × OptionsAgree InformationAgrees x.information y.information
    × (x.reply ≡ y.reply)
    × IdentifiersAgree x.registration y.registration

-- two templates of one kind that agree
pub data MembersAgree : MemberTemplate → MemberTemplate → Type 0 where
  two_behaviours : {x y : BehaviourTemplate} → x ≡ y → MembersAgree (Behaviour x) (Behaviour y)
  two_attributes : {x y : AttributeTemplate} → AttributesAgree x y → MembersAgree (Attribute x) (Attribute y)
  two_parameters : {x y : ParameterTemplate} → ParametersAgree x y → MembersAgree (Parameter x) (Parameter y)
  two_groups : {x y : GroupTemplate} → GroupsAgree x y → MembersAgree (Group x) (Group y)
  two_actions : {x y : ActionTemplate} → ActionsAgree x y → MembersAgree (Action x) (Action y)
  two_notifications : {x y : NotificationTemplate} → NotificationsAgree x y
      → MembersAgree (Notification x) (Notification y)
