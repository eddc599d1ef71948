-- Agreement: two templates are equal in all but the place and the capacity of the memory of their lists
-- and of their templates in line, which no text says (X.722, sections 8.3, 8.4 and 8.6).
use Rattle.std.specs.Prelude.{◌≡◌}
use Rattle.token_grammar.specs.PartLaws.{IdentifiersAgree, OptionsAgree}
use Rattle.gdmo_members.specs.Agreement.{VectorsEqual, VectorsAgree, AttributeReferencesAgree, ParameterReferencesAgree}
use Rattle.gdmo_members.specs.Agreement.{GroupsAgree, ActionsAgree, NotificationsAgree}
use Rattle.gdmo_classes.specs.declared.references.GroupReference.{GroupReference}
use Rattle.gdmo_classes.specs.declared.references.GroupReference.TheVariants.{Label as GLabel, Template as GTemplate}
use Rattle.gdmo_classes.specs.declared.references.ActionReference.{ActionReference}
use Rattle.gdmo_classes.specs.declared.references.ActionReference.TheVariants.{Label as ALabel, Template as ATemplate}
use Rattle.gdmo_classes.specs.declared.references.NotificationReference.{NotificationReference}
use Rattle.gdmo_classes.specs.declared.references.NotificationReference.TheVariants.{Label as NLabel}
use Rattle.gdmo_classes.specs.declared.references.NotificationReference.TheVariants.{Template as NTemplate}
use Rattle.gdmo_classes.specs.declared.member_use.GroupUse.{GroupUse}
use Rattle.gdmo_classes.specs.declared.member_use.ActionUse.{ActionUse}
use Rattle.gdmo_classes.specs.declared.member_use.NotificationUse.{NotificationUse}
use Rattle.gdmo_classes.specs.declared.attribute_use.AttributeUse.{AttributeUse}
use Rattle.gdmo_classes.specs.declared.package.PackageTemplate.{PackageTemplate}
use Rattle.gdmo_classes.specs.declared.package.PackageReference.{PackageReference}
use Rattle.gdmo_classes.specs.declared.package.PackageReference.TheVariants.{Label as PLabel, Template as PTemplate}
use Rattle.gdmo_classes.specs.declared.class.ConditionalPackage.{ConditionalPackage}
use Rattle.gdmo_classes.specs.declared.class.ObjectClassTemplate.{ObjectClassTemplate, Row_of-ClassReference}
use Rattle.gdmo_classes.specs.declared.class.ObjectClassTemplate.{end_of-ClassReference, more_of-ClassReference}
use Rattle.gdmo_classes.specs.declared.class.ObjectClassTemplate.{Held-ObjectClassTemplate-superclasses, None', Some'}
use Rattle.gdmo_classes.specs.declared.class.ClassReference.{ClassReference}
use Rattle.gdmo_classes.specs.declared.class.ClassReference.TheVariants.{Label as CLabel, Template' as CTemplate}
use Rattle.gdmo_classes.specs.declared.creation.Creation.{Creation}
use Rattle.gdmo_classes.specs.declared.creation.Deletion.{Deletion}
use Rattle.gdmo_classes.specs.declared.name_binding.ClassScope.{ClassScope}
use Rattle.gdmo_classes.specs.declared.name_binding.NameBindingTemplate.{NameBindingTemplate}
use Rattle.gdmo_classes.specs.declared.template.ClassTemplate.{ClassTemplate}
use Rattle.gdmo_classes.specs.declared.template.ClassTemplate.TheVariants.{Class, Package, NameBinding}

-- what names a group, an action or a notification
abbrev pub GroupReferencesAgree : GroupReference → GroupReference → Type 0
GroupReferencesAgree (GLabel x) (GLabel y) = x ≡ y
GroupReferencesAgree (GLabel x) (GTemplate y) = ⊥
GroupReferencesAgree (GTemplate x) (GLabel y) = ⊥
GroupReferencesAgree (GTemplate x) (GTemplate y) = GroupsAgree x y

abbrev pub ActionReferencesAgree : ActionReference → ActionReference → Type 0
ActionReferencesAgree (ALabel x) (ALabel y) = x ≡ y
ActionReferencesAgree (ALabel x) (ATemplate y) = ⊥
ActionReferencesAgree (ATemplate x) (ALabel y) = ⊥
ActionReferencesAgree (ATemplate x) (ATemplate y) = ActionsAgree x y

abbrev pub NotificationReferencesAgree : NotificationReference → NotificationReference → Type 0
NotificationReferencesAgree (NLabel x) (NLabel y) = x ≡ y
NotificationReferencesAgree (NLabel x) (NTemplate y) = ⊥
NotificationReferencesAgree (NTemplate x) (NLabel y) = ⊥
NotificationReferencesAgree (NTemplate x) (NTemplate y) = NotificationsAgree x y

-- what a package says of its attributes, groups, actions and notifications
abbrev pub AttributeUsesAgree : AttributeUse → AttributeUse → Type 0
AttributeUsesAgree x y =
    AttributeReferencesAgree x.attribute y.attribute
    × (x.properties ≡ y.properties)
    × VectorsAgree ParameterReferencesAgree x.parameters y.parameters

abbrev pub GroupUsesAgree : GroupUse → GroupUse → Type 0
GroupUsesAgree x y = GroupReferencesAgree x.group y.group
    × VectorsAgree AttributeReferencesAgree x.attributes y.attributes

abbrev pub ActionUsesAgree : ActionUse → ActionUse → Type 0
ActionUsesAgree x y = ActionReferencesAgree x.action y.action
    × VectorsAgree ParameterReferencesAgree x.parameters y.parameters

abbrev pub NotificationUsesAgree : NotificationUse → NotificationUse → Type 0
NotificationUsesAgree x y =
    NotificationReferencesAgree x.notification y.notification
    × VectorsAgree ParameterReferencesAgree x.parameters y.parameters

abbrev pub PackagesAgree : PackageTemplate → PackageTemplate → Type 0
PackagesAgree x y =
    (x.document ≡ y.document)
    × (x.label ≡ y.label)
    × OptionsAgree VectorsEqual x.behaviour y.behaviour
    × OptionsAgree (VectorsAgree AttributeUsesAgree) x.attributes y.attributes
    × OptionsAgree (VectorsAgree GroupUsesAgree) x.groups y.groups
    × OptionsAgree (VectorsAgree ActionUsesAgree) x.actions y.actions
    × OptionsAgree (VectorsAgree NotificationUsesAgree) x.notifications y.notifications
    × OptionsAgree IdentifiersAgree x.registration y.registration

abbrev pub PackageReferencesAgree : PackageReference → PackageReference → Type 0
PackageReferencesAgree (PLabel x) (PLabel y) = x ≡ y
PackageReferencesAgree (PLabel x) (PTemplate y) = ⊥
PackageReferencesAgree (PTemplate x) (PLabel y) = ⊥
PackageReferencesAgree (PTemplate x) (PTemplate y) = PackagesAgree x y

abbrev pub ConditionalsAgree : ConditionalPackage → ConditionalPackage → Type 0
ConditionalsAgree x y = PackageReferencesAgree x.package y.package × (x.condition ≡ y.condition)

-- classes, each with classes in line
abbrev mutual
  pub ClassReferencesAgree : ClassReference → ClassReference → Type 0
  ClassReferencesAgree (CLabel x) (CLabel y) = x ≡ y
  ClassReferencesAgree (CLabel x) (CTemplate _ _ _ _ _ _ _) = ⊥
  ClassReferencesAgree (CTemplate _ _ _ _ _ _ _) (CLabel y) = ⊥
  ClassReferencesAgree (CTemplate _ document label superclasses packages conditional registration)
      (CTemplate _ document' label' superclasses' packages' conditional' registration') =
      (document ≡ document')
      × (label ≡ label')
      × HeldAgree superclasses superclasses'
      × OptionsAgree (VectorsAgree PackageReferencesAgree) packages packages'
      × OptionsAgree (VectorsAgree ConditionalsAgree) conditional conditional'
      × IdentifiersAgree registration registration'

  pub RowsAgree : {n m : _} → Row_of-ClassReference n → Row_of-ClassReference m → Type 0
  RowsAgree end_of-ClassReference end_of-ClassReference = Unit {0}
  RowsAgree end_of-ClassReference (more_of-ClassReference y ys) = ⊥
  RowsAgree (more_of-ClassReference x xs) end_of-ClassReference = ⊥
  RowsAgree (more_of-ClassReference x xs) (more_of-ClassReference y ys) = ClassReferencesAgree x y × RowsAgree xs ys

  pub HeldAgree : Held-ObjectClassTemplate-superclasses → Held-ObjectClassTemplate-superclasses → Type 0
  HeldAgree None' None' = Unit {0}
  HeldAgree None' (Some' _ _) = ⊥
  HeldAgree (Some' _ _) None' = ⊥
  HeldAgree (Some' _ row) (Some' _ row') = RowsAgree row row'

abbrev pub ClassesAgree : ObjectClassTemplate → ObjectClassTemplate → Type 0
ClassesAgree x y =
    (x.document ≡ y.document)
    × (x.label ≡ y.label)
    × OptionsAgree (VectorsAgree ClassReferencesAgree) x.superclasses y.superclasses
    × OptionsAgree (VectorsAgree PackageReferencesAgree) x.packages y.packages
    × OptionsAgree (VectorsAgree ConditionalsAgree) x.conditional y.conditional
    × IdentifiersAgree x.registration y.registration

-- name bindings
abbrev pub ScopesAgree : ClassScope → ClassScope → Type 0
ScopesAgree x y = ClassReferencesAgree x.class y.class × (x.subclasses ≡ y.subclasses)

abbrev pub CreationsAgree : Creation → Creation → Type 0
CreationsAgree x y = (x.modifiers ≡ y.modifiers) × VectorsAgree ParameterReferencesAgree x.parameters y.parameters

abbrev pub DeletionsAgree : Deletion → Deletion → Type 0
DeletionsAgree x y = (x.modifier ≡ y.modifier) × VectorsAgree ParameterReferencesAgree x.parameters y.parameters

abbrev pub NameBindingsAgree : NameBindingTemplate → NameBindingTemplate → Type 0
NameBindingsAgree x y =
    (x.document ≡ y.document)
    × (x.label ≡ y.label)
    × ScopesAgree x.subordinate y.subordinate
    × ScopesAgree x.superior y.superior
    × AttributeReferencesAgree x.attribute y.attribute
    × OptionsAgree VectorsEqual x.behaviour y.behaviour
    × OptionsAgree CreationsAgree x.create y.create
    × OptionsAgree DeletionsAgree x.delete y.delete
    × IdentifiersAgree x.registration y.registration

-- two templates of one kind that agree
pub data TemplatesAgree : ClassTemplate → ClassTemplate → Type 0 where
  two_classes : {x y : ObjectClassTemplate} → ClassesAgree x y → TemplatesAgree (Class x) (Class y)
  two_packages : {x y : PackageTemplate} → PackagesAgree x y → TemplatesAgree (Package x) (Package y)
  two_name_bindings : {x y : NameBindingTemplate} → NameBindingsAgree x y
      → TemplatesAgree (NameBinding x) (NameBinding y)
