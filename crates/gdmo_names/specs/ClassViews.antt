-- ClassViews: what the texts of managed object classes, packages and name bindings say, as the terms of TemplateTerms
-- (X.722, sections 8.3, 8.4 and 8.6; docs/PROFILE.md, section 2).
use Rattle.std.specs.Prelude.{List, [], ◌∷◌, ◌++◌, Option, None, Some, option_map, is_some}
use Rattle.std.specs.declared.alloc.Global.{Global}
use Rattle.std.specs.declared.vec.Vec.{Vec}
use Rattle.token_grammar.specs.declared.token.Token.{Token}
use Rattle.gdmo_classes.specs.declared.attribute_use.AttributeUse.{AttributeUse}
use Rattle.gdmo_classes.specs.declared.class.ClassReference.{ClassReference}
use Rattle.gdmo_classes.specs.declared.class.ClassReference.TheVariants.{Label as ClassLabel, Template' as ClassInLine}
use Rattle.gdmo_classes.specs.declared.class.ConditionalPackage.{ConditionalPackage}
use Rattle.gdmo_classes.specs.declared.class.ObjectClassTemplate.{ObjectClassTemplate, Row_of-ClassReference}
use Rattle.gdmo_classes.specs.declared.class.ObjectClassTemplate.{end_of-ClassReference, more_of-ClassReference}
use Rattle.gdmo_classes.specs.declared.class.ObjectClassTemplate.{Held-ObjectClassTemplate-superclasses, None', Some'}
use Rattle.gdmo_classes.specs.declared.creation.CreateModifiers.{CreateModifiers}
use Rattle.gdmo_classes.specs.declared.creation.CreateModifiers.TheVariants.{ReferenceFirst, NamingFirst}
use Rattle.gdmo_classes.specs.declared.creation.Creation.{Creation}
use Rattle.gdmo_classes.specs.declared.creation.Deletion.{Deletion}
use Rattle.gdmo_classes.specs.declared.creation.FurtherModifier.{FurtherModifier}
use Rattle.gdmo_classes.specs.declared.member_use.ActionUse.{ActionUse}
use Rattle.gdmo_classes.specs.declared.member_use.GroupUse.{GroupUse}
use Rattle.gdmo_classes.specs.declared.member_use.NotificationUse.{NotificationUse}
use Rattle.gdmo_classes.specs.declared.name_binding.NameBindingTemplate.{NameBindingTemplate}
use Rattle.gdmo_classes.specs.declared.package.PackageReference.{PackageReference}
use Rattle.gdmo_classes.specs.declared.package.PackageReference.TheVariants.{Label as PackageLabel}
use Rattle.gdmo_classes.specs.declared.package.PackageReference.TheVariants.{Template as PackageInLine}
use Rattle.gdmo_classes.specs.declared.package.PackageTemplate.{PackageTemplate}
use Rattle.gdmo_classes.specs.declared.properties.Properties.{Properties}
use Rattle.gdmo_classes.specs.declared.properties.PropertyValue.{PropertyValue}
use Rattle.gdmo_classes.specs.declared.properties.PropertyValue.TheVariants.{Value, Rule}
use Rattle.gdmo_classes.specs.declared.references.ActionReference.{ActionReference}
use Rattle.gdmo_classes.specs.declared.references.ActionReference.TheVariants.{Label as ActionLabel}
use Rattle.gdmo_classes.specs.declared.references.ActionReference.TheVariants.{Template as ActionInLine}
use Rattle.gdmo_classes.specs.declared.references.GroupReference.{GroupReference}
use Rattle.gdmo_classes.specs.declared.references.GroupReference.TheVariants.{Label as GroupLabel}
use Rattle.gdmo_classes.specs.declared.references.GroupReference.TheVariants.{Template as GroupInLine}
use Rattle.gdmo_classes.specs.declared.references.NotificationReference.{NotificationReference}
use Rattle.gdmo_classes.specs.declared.references.NotificationReference.TheVariants.{Label as NotificationLabel}
use Rattle.gdmo_classes.specs.declared.references.NotificationReference.TheVariants.{Template as NotificationInLine}
use Rattle.gdmo_names.specs.MemberViews.{action_term, attribute_reference, behaviour_reference, behaviour_terms}
use Rattle.gdmo_names.specs.MemberViews.{clause_terms, group_term, identifier_term, notification_term}
use Rattle.gdmo_names.specs.MemberViews.{parameter_reference, reference_terms}
use Rattle.gdmo_names.specs.TemplateTerms.{ReferenceTerm, ReferenceTerms, TemplateTerm, StatedTerm}
use Rattle.gdmo_names.specs.TemplateTerms.{UseTerms, RowTerms, LifeTerm}
use Rattle.gdmo_names.specs.TemplateTerms.ReferenceTerm.{ByLabel, InLine}
use Rattle.gdmo_names.specs.TemplateTerms.ReferenceTerms.{NoReferences, Reference}
use Rattle.gdmo_names.specs.TemplateTerms.TemplateTerm.{Template}
use Rattle.gdmo_names.specs.TemplateTerms.BodyTerm.{ClassBody, PackageBody, BindingBody}
use Rattle.gdmo_names.specs.TemplateTerms.StatedTerm.{NotStated, StatedValue, ByRule}
use Rattle.gdmo_names.specs.TemplateTerms.UseTerms.{NoUses, Use}
use Rattle.gdmo_names.specs.TemplateTerms.RowTerms.{NoRows, Row}
use Rattle.gdmo_names.specs.TemplateTerms.LifeTerm.{NoLife, Life}

-- a word, where it stands
abbrev pub word_list : Option Token → List Token
word_list None = []
word_list (Some word) = word ∷ []

-- attributes of a package
abbrev pub stated_term : Option PropertyValue → StatedTerm
stated_term None = NotStated
stated_term (Some (Value name)) = StatedValue name
stated_term (Some (Rule rule)) = ByRule (behaviour_reference rule)

abbrev pub property_words : Properties → List Token
property_words x = word_list x.replace_with_default ++ (word_list x.access ++ word_list x.members)

abbrev pub use_terms : List AttributeUse → UseTerms
use_terms [] = NoUses
use_terms (x ∷ xs) = Use (attribute_reference x.attribute) (stated_term x.properties.default_value)
    (stated_term x.properties.initial_value) x.properties.permitted_values x.properties.required_values
    (property_words x.properties) (reference_terms parameter_reference x.parameters.items) (use_terms xs)

abbrev pub uses_of : Option (Vec AttributeUse Global) → UseTerms
uses_of None = NoUses
uses_of (Some xs) = use_terms xs.items

-- groups, actions and notifications of a package
abbrev pub group_reference : GroupReference → ReferenceTerm
group_reference (GroupLabel x) = ByLabel x.label
group_reference (GroupInLine x) = InLine (group_term x)

abbrev pub action_reference : ActionReference → ReferenceTerm
action_reference (ActionLabel x) = ByLabel x.label
action_reference (ActionInLine x) = InLine (action_term x)

abbrev pub notification_reference : NotificationReference → ReferenceTerm
notification_reference (NotificationLabel x) = ByLabel x.label
notification_reference (NotificationInLine x) = InLine (notification_term x)

abbrev pub row_terms : {X : Type 0} → (X → ReferenceTerm) → (X → ReferenceTerms) → List X → RowTerms
row_terms one behind [] = NoRows
row_terms one behind (x ∷ xs) = Row (one x) (behind x) (row_terms one behind xs)

abbrev pub rows_of : {X : Type 0} → (X → ReferenceTerm) → (X → ReferenceTerms) → Option (Vec X Global) → RowTerms
rows_of one behind None = NoRows
rows_of one behind (Some xs) = row_terms one behind xs.items

abbrev pub group_terms : List GroupUse → RowTerms
group_terms xs = row_terms (λ y. group_reference y.group) (λ y. reference_terms attribute_reference y.attributes.items) xs

abbrev pub action_terms : List ActionUse → RowTerms
action_terms xs =
    row_terms (λ y. action_reference y.action) (λ y. reference_terms parameter_reference y.parameters.items) xs

abbrev pub notification_terms : List NotificationUse → RowTerms
notification_terms xs = row_terms (λ y. notification_reference y.notification)
    (λ y. reference_terms parameter_reference y.parameters.items) xs

abbrev pub group_rows : Option (Vec GroupUse Global) → RowTerms
group_rows x = rows_of (λ y. group_reference y.group) (λ y. reference_terms attribute_reference y.attributes.items) x

abbrev pub action_rows : Option (Vec ActionUse Global) → RowTerms
action_rows x =
    rows_of (λ y. action_reference y.action) (λ y. reference_terms parameter_reference y.parameters.items) x

abbrev pub notification_rows : Option (Vec NotificationUse Global) → RowTerms
notification_rows x = rows_of (λ y. notification_reference y.notification)
    (λ y. reference_terms parameter_reference y.parameters.items) x

-- packages
abbrev pub package_term : PackageTemplate → TemplateTerm
package_term x = Template x.label (option_map identifier_term x.registration)
    (PackageBody (behaviour_terms x.behaviour) (uses_of x.attributes) (group_rows x.groups) (action_rows x.actions)
    (notification_rows x.notifications))

abbrev pub package_reference : PackageReference → ReferenceTerm
package_reference (PackageLabel x) = ByLabel x.label
package_reference (PackageInLine x) = InLine (package_term x)

abbrev pub conditional_reference : ConditionalPackage → ReferenceTerm
conditional_reference x = package_reference x.package

-- classes
abbrev mutual
  pub class_reference : ClassReference → ReferenceTerm
  class_reference (ClassLabel x) = ByLabel x.label
  class_reference (ClassInLine place document label superclasses packages conditional registration) =
      InLine (Template label (Some (identifier_term registration))
      (ClassBody (held_terms superclasses) (clause_terms package_reference packages)
      (clause_terms conditional_reference conditional)))

  pub superclass_terms : {n : _} → Row_of-ClassReference n → ReferenceTerms
  superclass_terms end_of-ClassReference = NoReferences
  superclass_terms (more_of-ClassReference class others) =
      Reference (class_reference class) (superclass_terms others)

  pub held_terms : Held-ObjectClassTemplate-superclasses → ReferenceTerms
  held_terms None' = NoReferences
  held_terms (Some' shape row) = superclass_terms row

abbrev pub class_term : ObjectClassTemplate → TemplateTerm
class_term x = Template x.label (Some (identifier_term x.registration))
    (ClassBody (clause_terms class_reference x.superclasses) (clause_terms package_reference x.packages)
    (clause_terms conditional_reference x.conditional))

-- name bindings
abbrev pub second_word : Option FurtherModifier → List Token
second_word None = []
second_word (Some x) = x.word ∷ []

abbrev pub modifier_words : Option CreateModifiers → List Token
modifier_words None = []
modifier_words (Some (ReferenceFirst row)) = row.first ∷ second_word row.second
modifier_words (Some (NamingFirst row)) = row.first ∷ second_word row.second

abbrev pub creation_term : Option Creation → LifeTerm
creation_term None = NoLife
creation_term (Some x) = Life (modifier_words x.modifiers) (reference_terms parameter_reference x.parameters.items)

abbrev pub deletion_term : Option Deletion → LifeTerm
deletion_term None = NoLife
deletion_term (Some x) = Life (word_list x.modifier) (reference_terms parameter_reference x.parameters.items)

abbrev pub binding_term : NameBindingTemplate → TemplateTerm
binding_term x = Template x.label (Some (identifier_term x.registration))
    (BindingBody (class_reference x.subordinate.class) (is_some x.subordinate.subclasses)
    (class_reference x.superior.class) (is_some x.superior.subclasses) (attribute_reference x.attribute)
    (behaviour_terms x.behaviour) (creation_term x.create) (deletion_term x.delete))
