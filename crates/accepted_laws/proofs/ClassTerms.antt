-- ClassTerms: managed object classes, packages and name bindings that agree say one thing (X.722, sections 8.3, 8.4 and
-- 8.6; docs/PROFILE.md, section 2).
use Rattle.std.specs.Prelude.{is_some}
use Rattle.std.proofs.Common.{◌≡◌, ℕ, List, [], ◌∷◌, None, Some, refl, ap}
use Rattle.token_grammar.specs.PartLaws.{ListsAgree, OptionsAgree}
use Rattle.gdmo_members.specs.Agreement.{AttributeReferencesAgree, ParameterReferencesAgree, VectorsAgree}
use Rattle.gdmo_classes.specs.declared.attribute_use.AttributeUse.{AttributeUse}
use Rattle.gdmo_classes.specs.declared.class.ClassReference.{ClassReference}
use Rattle.gdmo_classes.specs.declared.class.ClassReference.TheVariants.{Label as ClassLabel, Template' as ClassInLine}
use Rattle.gdmo_classes.specs.declared.class.ObjectClassTemplate.{Row_of-ClassReference, end_of-ClassReference}
use Rattle.gdmo_classes.specs.declared.class.ObjectClassTemplate.{more_of-ClassReference}
use Rattle.gdmo_classes.specs.declared.class.ObjectClassTemplate.{Held-ObjectClassTemplate-superclasses, None', Some'}
use Rattle.gdmo_classes.specs.declared.package.PackageReference.TheVariants.{Label as PackageLabel}
use Rattle.gdmo_classes.specs.declared.package.PackageReference.TheVariants.{Template as PackageInLine}
use Rattle.gdmo_classes.specs.declared.references.ActionReference.TheVariants.{Label as ActionLabel}
use Rattle.gdmo_classes.specs.declared.references.ActionReference.TheVariants.{Template as ActionInLine}
use Rattle.gdmo_classes.specs.declared.references.GroupReference.TheVariants.{Label as GroupLabel}
use Rattle.gdmo_classes.specs.declared.references.GroupReference.TheVariants.{Template as GroupInLine}
use Rattle.gdmo_classes.specs.declared.references.NotificationReference.TheVariants.{Label as NotificationLabel}
use Rattle.gdmo_classes.specs.declared.references.NotificationReference.TheVariants.{Template as NotificationInLine}
use Rattle.gdmo_classes.specs.declared.template.ClassTemplate.{ClassTemplate}
use Rattle.gdmo_classes.specs.Agreement.{ActionReferencesAgree, ActionUsesAgree, AttributeUsesAgree}
use Rattle.gdmo_classes.specs.Agreement.{ClassReferencesAgree, ClassesAgree, ConditionalsAgree, CreationsAgree}
use Rattle.gdmo_classes.specs.Agreement.{DeletionsAgree, GroupReferencesAgree, GroupUsesAgree, HeldAgree}
use Rattle.gdmo_classes.specs.Agreement.{NameBindingsAgree, NotificationReferencesAgree, NotificationUsesAgree}
use Rattle.gdmo_classes.specs.Agreement.{PackageReferencesAgree, PackagesAgree, RowsAgree, TemplatesAgree, two_classes}
use Rattle.gdmo_classes.specs.Agreement.{two_name_bindings, two_packages}
use Rattle.gdmo_names.specs.ClassViews.{action_reference, action_rows, binding_term, class_reference, class_term}
use Rattle.gdmo_names.specs.ClassViews.{conditional_reference, creation_term, deletion_term, group_reference}
use Rattle.gdmo_names.specs.ClassViews.{group_rows, held_terms, modifier_words, notification_reference}
use Rattle.gdmo_names.specs.ClassViews.{notification_rows, package_reference, package_term, property_words}
use Rattle.gdmo_names.specs.ClassViews.{row_terms, rows_of, stated_term, superclass_terms, use_terms, uses_of}
use Rattle.gdmo_names.specs.ClassViews.{word_list}
use Rattle.gdmo_names.specs.MemberViews.{attribute_reference, clause_terms, parameter_reference, reference_terms}
use Rattle.gdmo_names.specs.PartViews.{class_placed}
use Rattle.gdmo_names.specs.TemplateTerms.{ReferenceTerm, ReferenceTerms}
use Rattle.gdmo_names.specs.TemplateTerms.ReferenceTerm.{ByLabel, InLine}
use Rattle.gdmo_names.specs.TemplateTerms.ReferenceTerms.{Reference}
use Rattle.gdmo_names.specs.TemplateTerms.TemplateTerm.{Template}
use Rattle.gdmo_names.specs.TemplateTerms.BodyTerm.{BindingBody, ClassBody, PackageBody}
use Rattle.gdmo_names.specs.TemplateTerms.UseTerms.{Use}
use Rattle.gdmo_names.specs.TemplateTerms.RowTerms.{Row}
use Rattle.gdmo_names.specs.TemplateTerms.LifeTerm.{Life}
use Rattle.document_parts.specs.DocumentParts.{numbered_class}
use Rattle.accepted_laws.proofs.ListTerms.{SayOne, clauses_say, identifiers_say, references_say}
use Rattle.accepted_laws.proofs.MemberTerms.{actions_say, attribute_references_say, behaviours_say, groups_say}
use Rattle.accepted_laws.proofs.MemberTerms.{notifications_say, parameter_references_say, registrations_say}

-- parameters of a use
parameter_rows_say : SayOne (VectorsAgree ParameterReferencesAgree) (λ x. reference_terms parameter_reference x.items)
parameter_rows_say x y a =
    references_say ParameterReferencesAgree parameter_reference parameter_references_say x.items y.items a

attribute_rows_say : SayOne (VectorsAgree AttributeReferencesAgree) (λ x. reference_terms attribute_reference x.items)
attribute_rows_say x y a =
    references_say AttributeReferencesAgree attribute_reference attribute_references_say x.items y.items a

-- attributes of a package
use_lists_say : (xs ys : List AttributeUse) → ListsAgree AttributeUsesAgree xs ys → use_terms xs ≡ use_terms ys
use_lists_say [] [] a = refl
use_lists_say [] (y ∷ ys) a = absurd a
use_lists_say (x ∷ xs) [] a = absurd a
use_lists_say (x ∷ xs) (y ∷ ys) a =
    let attributes = attribute_references_say x.attribute y.attribute a.0.0 in
    let properties = a.0.1 in
    let parameters = parameter_rows_say x.parameters y.parameters a.0.2 in
    let others = use_lists_say xs ys a.1 in
    λ i. Use (attributes i) (stated_term (properties i).default_value) (stated_term (properties i).initial_value)
    (properties i).permitted_values (properties i).required_values (property_words (properties i)) (parameters i)
    (others i)

uses_say : SayOne (OptionsAgree (VectorsAgree AttributeUsesAgree)) uses_of
uses_say None None a = refl
uses_say None (Some _) a = absurd a
uses_say (Some _) None a = absurd a
uses_say (Some x) (Some y) a = use_lists_say x.items y.items a

-- groups, actions and notifications of a package
group_references_say : SayOne GroupReferencesAgree group_reference
group_references_say (GroupLabel x) (GroupLabel y) a = λ i. ByLabel (a i).label
group_references_say (GroupLabel _) (GroupInLine _) a = absurd a
group_references_say (GroupInLine _) (GroupLabel _) a = absurd a
group_references_say (GroupInLine x) (GroupInLine y) a = ap InLine (groups_say x y a)

action_references_say : SayOne ActionReferencesAgree action_reference
action_references_say (ActionLabel x) (ActionLabel y) a = λ i. ByLabel (a i).label
action_references_say (ActionLabel _) (ActionInLine _) a = absurd a
action_references_say (ActionInLine _) (ActionLabel _) a = absurd a
action_references_say (ActionInLine x) (ActionInLine y) a = ap InLine (actions_say x y a)

notification_references_say : SayOne NotificationReferencesAgree notification_reference
notification_references_say (NotificationLabel x) (NotificationLabel y) a = λ i. ByLabel (a i).label
notification_references_say (NotificationLabel _) (NotificationInLine _) a = absurd a
notification_references_say (NotificationInLine _) (NotificationLabel _) a = absurd a
notification_references_say (NotificationInLine x) (NotificationInLine y) a = ap InLine (notifications_say x y a)

row_lists_say : {X : Type 0} (agree : X → X → Type 0) (one : X → ReferenceTerm) (behind : X → ReferenceTerms) →
    SayOne agree one → SayOne agree behind → (xs ys : List X) → ListsAgree agree xs ys →
    row_terms one behind xs ≡ row_terms one behind ys
row_lists_say agree one behind same further [] [] a = refl
row_lists_say agree one behind same further [] (y ∷ ys) a = absurd a
row_lists_say agree one behind same further (x ∷ xs) [] a = absurd a
row_lists_say agree one behind same further (x ∷ xs) (y ∷ ys) a =
    let first = same x y a.0 in
    let second = further x y a.0 in
    let others = row_lists_say agree one behind same further xs ys a.1 in
    λ i. Row (first i) (second i) (others i)

rows_say : {X : Type 0} (agree : X → X → Type 0) (one : X → ReferenceTerm) (behind : X → ReferenceTerms) →
    SayOne agree one → SayOne agree behind → SayOne (OptionsAgree (VectorsAgree agree)) (rows_of one behind)
rows_say agree one behind same further None None a = refl
rows_say agree one behind same further None (Some _) a = absurd a
rows_say agree one behind same further (Some _) None a = absurd a
rows_say agree one behind same further (Some x) (Some y) a =
    row_lists_say agree one behind same further x.items y.items a

group_rows_say : SayOne (OptionsAgree (VectorsAgree GroupUsesAgree)) group_rows
group_rows_say x y a = rows_say GroupUsesAgree _ _ (λ z w b. group_references_say z.group w.group b.0)
    (λ z w b. attribute_rows_say z.attributes w.attributes b.1) x y a

action_rows_say : SayOne (OptionsAgree (VectorsAgree ActionUsesAgree)) action_rows
action_rows_say x y a = rows_say ActionUsesAgree _ _ (λ z w b. action_references_say z.action w.action b.0)
    (λ z w b. parameter_rows_say z.parameters w.parameters b.1) x y a

notification_rows_say : SayOne (OptionsAgree (VectorsAgree NotificationUsesAgree)) notification_rows
notification_rows_say x y a =
    rows_say NotificationUsesAgree _ _ (λ z w b. notification_references_say z.notification w.notification b.0)
    (λ z w b. parameter_rows_say z.parameters w.parameters b.1) x y a

-- packages
packages_say : SayOne PackagesAgree package_term
packages_say x y a =
    let labels = a.1 in
    let behaviours = behaviours_say x.behaviour y.behaviour a.2 in
    let attributes = uses_say x.attributes y.attributes a.3 in
    let groups = group_rows_say x.groups y.groups a.4 in
    let actions = action_rows_say x.actions y.actions a.5 in
    let notifications = notification_rows_say x.notifications y.notifications a.6 in
    let registrations = registrations_say x.registration y.registration a.7 in
    λ i. Template (labels i) (registrations i)
    (PackageBody (behaviours i) (attributes i) (groups i) (actions i) (notifications i))

package_references_say : SayOne PackageReferencesAgree package_reference
package_references_say (PackageLabel x) (PackageLabel y) a = λ i. ByLabel (a i).label
package_references_say (PackageLabel _) (PackageInLine _) a = absurd a
package_references_say (PackageInLine _) (PackageLabel _) a = absurd a
package_references_say (PackageInLine x) (PackageInLine y) a = ap InLine (packages_say x y a)

package_clauses_say : SayOne (OptionsAgree (VectorsAgree PackageReferencesAgree)) (clause_terms package_reference)
package_clauses_say = clauses_say PackageReferencesAgree package_reference package_references_say

conditionals_say : SayOne (OptionsAgree (VectorsAgree ConditionalsAgree)) (clause_terms conditional_reference)
conditionals_say = clauses_say ConditionalsAgree conditional_reference
    (λ x y a. package_references_say x.package y.package a.0)

-- classes
mutual
  class_references_say : (x y : ClassReference) → ClassReferencesAgree x y → class_reference x ≡ class_reference y
  class_references_say (ClassLabel x) (ClassLabel y) a = λ i. ByLabel (a i).label
  class_references_say (ClassLabel _) (ClassInLine _ _ _ _ _ _ _) a = absurd a
  class_references_say (ClassInLine _ _ _ _ _ _ _) (ClassLabel _) a = absurd a
  class_references_say (ClassInLine _ document label superclasses packages conditional registration)
      (ClassInLine _ its_document its_label others further its_conditional its_registration) a =
      let labels = a.1 in
      let superclass = held_say superclasses others a.2 in
      let mandatory = package_clauses_say packages further a.3 in
      let conditionals = conditionals_say conditional its_conditional a.4 in
      let registrations = identifiers_say registration its_registration a.5 in
      λ i. InLine (Template (labels i) (Some (registrations i))
      (ClassBody (superclass i) (mandatory i) (conditionals i)))

  superclasses_say : {n m : _} (x : Row_of-ClassReference n) (y : Row_of-ClassReference m) → RowsAgree x y →
      superclass_terms x ≡ superclass_terms y
  superclasses_say end_of-ClassReference end_of-ClassReference a = refl
  superclasses_say end_of-ClassReference (more_of-ClassReference _ _) a = absurd a
  superclasses_say (more_of-ClassReference _ _) end_of-ClassReference a = absurd a
  superclasses_say (more_of-ClassReference x xs) (more_of-ClassReference y ys) a =
      let first = class_references_say x y a.0 in
      let others = superclasses_say xs ys a.1 in
      λ i. Reference (first i) (others i)

  held_say : (x y : Held-ObjectClassTemplate-superclasses) → HeldAgree x y → held_terms x ≡ held_terms y
  held_say None' None' a = refl
  held_say None' (Some' _ _) a = absurd a
  held_say (Some' _ _) None' a = absurd a
  held_say (Some' _ row) (Some' _ other) a = superclasses_say row other a

class_templates_say : SayOne ClassesAgree class_term
class_templates_say x y a =
    let labels = a.1 in
    let superclasses =
    clauses_say ClassReferencesAgree class_reference class_references_say x.superclasses y.superclasses a.2 in
    let mandatory = package_clauses_say x.packages y.packages a.3 in
    let conditionals = conditionals_say x.conditional y.conditional a.4 in
    let registrations = identifiers_say x.registration y.registration a.5 in
    λ i. Template (labels i) (Some (registrations i)) (ClassBody (superclasses i) (mandatory i) (conditionals i))

-- name bindings
creations_say : SayOne (OptionsAgree CreationsAgree) creation_term
creations_say None None a = refl
creations_say None (Some _) a = absurd a
creations_say (Some _) None a = absurd a
creations_say (Some x) (Some y) a =
    let modifiers = a.0 in
    let parameters = parameter_rows_say x.parameters y.parameters a.1 in
    λ i. Life (modifier_words (modifiers i)) (parameters i)

deletions_say : SayOne (OptionsAgree DeletionsAgree) deletion_term
deletions_say None None a = refl
deletions_say None (Some _) a = absurd a
deletions_say (Some _) None a = absurd a
deletions_say (Some x) (Some y) a =
    let modifiers = a.0 in
    let parameters = parameter_rows_say x.parameters y.parameters a.1 in
    λ i. Life (word_list (modifiers i)) (parameters i)

bindings_say : SayOne NameBindingsAgree binding_term
bindings_say x y a =
    let labels = a.1 in
    let subordinates = class_references_say x.subordinate.class y.subordinate.class a.2.0 in
    let subclasses = a.2.1 in
    let superiors = class_references_say x.superior.class y.superior.class a.3.0 in
    let its_subclasses = a.3.1 in
    let attributes = attribute_references_say x.attribute y.attribute a.4 in
    let behaviours = behaviours_say x.behaviour y.behaviour a.5 in
    let creations = creations_say x.create y.create a.6 in
    let deletions = deletions_say x.delete y.delete a.7 in
    let registrations = identifiers_say x.registration y.registration a.8 in
    λ i. Template (labels i) (Some (registrations i))
    (BindingBody (subordinates i) (is_some (subclasses i)) (superiors i) (is_some (its_subclasses i)) (attributes i)
    (behaviours i) (creations i) (deletions i))

-- templates that don't stand in line, with the number of their document
templates_in_turn : (n : ℕ) {x y : ClassTemplate} → TemplatesAgree x y →
    class_placed (numbered_class n x) ≡ class_placed (numbered_class n y)
templates_in_turn n (two_classes {x} {y} a) =
    let same = class_templates_say x y a in
    λ i. record { document = n; template = same i }
templates_in_turn n (two_packages {x} {y} a) =
    let same = packages_say x y a in
    λ i. record { document = n; template = same i }
templates_in_turn n (two_name_bindings {x} {y} a) =
    let same = bindings_say x y a in
    λ i. record { document = n; template = same i }

pub classes_say : (n : ℕ) → SayOne TemplatesAgree (λ x. class_placed (numbered_class n x))
classes_say n x y a = templates_in_turn n a
