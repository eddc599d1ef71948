-- Values that agree have one tree: packages, classes, each with classes in line, name bindings, and the
-- templates of all three kinds.
use Rattle.std.proofs.Common.{◌≡◌, refl, ap}
use Rattle.token_grammar.specs.Form.{Tree, Bare, Leaf, Pair, First, Second, Present, Empty, After}
use Rattle.token_grammar.specs.Parts.{optional_tree, label_reference_tree, vector_tree}
use Rattle.token_grammar.specs.PartLaws.{OneTreeBy, OptionsAgree, IdentifiersAgree}
use Rattle.token_grammar.proofs.Values.{options_alike, identifiers_alike}
use Rattle.gdmo_members.specs.Trees.{clause_tree, registration_tree, ending_tree}
use Rattle.gdmo_members.specs.MemberTrees.{attribute_reference_tree, template_tree}
use Rattle.gdmo_members.specs.Agreement.{AttributeReferencesAgree, VectorsAgree}
use Rattle.gdmo_members.proofs.SameTrees.{vectors_alike, clauses_alike, optional_clause, behaviours_alike}
use Rattle.gdmo_members.proofs.SameTrees.{registered_endings_alike, references_alike}
use Rattle.gdmo_classes.specs.declared.package.PackageReference.TheVariants.{Label as PLabel, Template as PTemplate}
use Rattle.gdmo_classes.specs.declared.class.ObjectClassTemplate.{Row_of-ClassReference, end_of-ClassReference}
use Rattle.gdmo_classes.specs.declared.class.ObjectClassTemplate.{more_of-ClassReference}
use Rattle.gdmo_classes.specs.declared.class.ObjectClassTemplate.{Held-ObjectClassTemplate-superclasses, None', Some'}
use Rattle.gdmo_classes.specs.declared.class.ClassReference.{ClassReference}
use Rattle.gdmo_classes.specs.declared.class.ClassReference.TheVariants.{Label as CLabel, Template' as CTemplate}
use Rattle.gdmo_classes.specs.declared.template.ClassTemplate.{ClassTemplate}
use Rattle.gdmo_classes.specs.UseTrees.{attribute_use_tree, group_use_tree, action_use_tree, notification_use_tree}
use Rattle.gdmo_classes.specs.PackageTrees.{package_tree, package_reference_tree, conditional_tree}
use Rattle.gdmo_classes.specs.ClassTrees.{class_tree, class_reference_tree, packages_tree, conditionals_tree}
use Rattle.gdmo_classes.specs.ClassTrees.{superclasses_tree, row_tree, held_tree}
use Rattle.gdmo_classes.specs.BindingTrees.{modifiers_tree, creation_tree, deletion_tree, subclasses_tree}
use Rattle.gdmo_classes.specs.BindingTrees.{class_scope_tree, name_binding_tree}
use Rattle.gdmo_classes.specs.TemplateTree.{class_template_tree}
use Rattle.gdmo_classes.specs.Agreement.{AttributeUsesAgree, GroupUsesAgree, ActionUsesAgree, NotificationUsesAgree}
use Rattle.gdmo_classes.specs.Agreement.{PackagesAgree, PackageReferencesAgree, ConditionalsAgree, ClassesAgree}
use Rattle.gdmo_classes.specs.Agreement.{ClassReferencesAgree, RowsAgree, HeldAgree, ScopesAgree, CreationsAgree}
use Rattle.gdmo_classes.specs.Agreement.{DeletionsAgree, NameBindingsAgree, TemplatesAgree, two_classes, two_packages}
use Rattle.gdmo_classes.specs.Agreement.{two_name_bindings}
use Rattle.gdmo_classes.proofs.SameUses.{parameter_rows_alike, attribute_uses_alike, group_uses_alike}
use Rattle.gdmo_classes.proofs.SameUses.{action_uses_alike, notification_uses_alike}

-- an optional clause with a list of parts
listed_alike : {X : Type 0} (agree : X → X → Type 0) (view : X → Tree) → OneTreeBy agree view
    → OneTreeBy (OptionsAgree (VectorsAgree agree)) (optional_tree (clause_tree (vector_tree view)))
listed_alike agree view same = optional_clause (VectorsAgree agree) (vector_tree view) (vectors_alike agree view same)

registrations_alike : OneTreeBy IdentifiersAgree registration_tree
registrations_alike x y a = ap (Pair Bare) (identifiers_alike x y a)

endings_alike : OneTreeBy (OptionsAgree IdentifiersAgree) ending_tree
endings_alike x y a = ap (λ (t : Tree). Pair t Bare)
    (options_alike IdentifiersAgree registration_tree registrations_alike x y a)

-- packages
pub package_templates_alike : OneTreeBy PackagesAgree package_tree
package_templates_alike x y a =
    let numbers = a.0 in
    let labels = a.1 in
    let behaviours = behaviours_alike x.behaviour y.behaviour a.2 in
    let attributes = listed_alike AttributeUsesAgree attribute_use_tree attribute_uses_alike x.attributes
    y.attributes a.3 in
    let groups = listed_alike GroupUsesAgree group_use_tree group_uses_alike x.groups y.groups a.4 in
    let actions = listed_alike ActionUsesAgree action_use_tree action_uses_alike x.actions y.actions a.5 in
    let notifications = listed_alike NotificationUsesAgree notification_use_tree notification_uses_alike x.notifications
    y.notifications a.6 in
    let endings = endings_alike x.registration y.registration a.7 in
    λ i. template_tree (numbers i) (labels i)
    (Pair (behaviours i) (Pair (attributes i) (Pair (groups i) (Pair (actions i) (Pair (notifications i) Bare)))))
    (endings i)

pub package_references_alike : OneTreeBy PackageReferencesAgree package_reference_tree
package_references_alike (PLabel x) (PLabel y) a = λ i. First (label_reference_tree (a i))
package_references_alike (PLabel x) (PTemplate y) a = absurd a
package_references_alike (PTemplate x) (PLabel y) a = absurd a
package_references_alike (PTemplate x) (PTemplate y) a = ap Second (package_templates_alike x y a)

packages_alike : OneTreeBy (OptionsAgree (VectorsAgree PackageReferencesAgree)) packages_tree
packages_alike = listed_alike PackageReferencesAgree package_reference_tree package_references_alike

conditional_alike : OneTreeBy ConditionalsAgree conditional_tree
conditional_alike x y a =
    let named = package_references_alike x.package y.package a.0 in
    let condition = a.1 in
    λ i. Pair (named i) (Pair Bare (Leaf (condition i)))

conditionals_alike : OneTreeBy (OptionsAgree (VectorsAgree ConditionalsAgree)) conditionals_tree
conditionals_alike = listed_alike ConditionalsAgree conditional_tree conditional_alike

mutual
  pub class_references_alike : (x y : ClassReference) → ClassReferencesAgree x y
      → class_reference_tree x ≡ class_reference_tree y
  class_references_alike (CLabel x) (CLabel y) a = λ i. First (label_reference_tree (a i))
  class_references_alike (CLabel x) (CTemplate _ _ _ _ _ _ _) a = absurd a
  class_references_alike (CTemplate _ _ _ _ _ _ _) (CLabel y) a = absurd a
  class_references_alike (CTemplate _ document label superclasses packages conditional registration)
      (CTemplate _ document' label' superclasses' packages' conditional' registration') a =
      let numbers = a.0 in
      let labels = a.1 in
      let held = held_alike superclasses superclasses' a.2 in
      let mandatory = packages_alike packages packages' a.3 in
      let conditionals = conditionals_alike conditional conditional' a.4 in
      let endings = registered_endings_alike registration registration' a.5 in
      λ i. Second (template_tree (numbers i) (labels i)
      (Pair (held i) (Pair (mandatory i) (Pair (conditionals i) Bare))) (endings i))

  rows_alike : {n m : _} (x : Row_of-ClassReference n) (y : Row_of-ClassReference m) (before other : Tree)
      → before ≡ other → RowsAgree x y → row_tree before x ≡ row_tree other y
  rows_alike end_of-ClassReference end_of-ClassReference before other e a = e
  rows_alike end_of-ClassReference (more_of-ClassReference y ys) before other e a = absurd a
  rows_alike (more_of-ClassReference x xs) end_of-ClassReference before other e a = absurd a
  rows_alike (more_of-ClassReference x xs) (more_of-ClassReference y ys) before other e a =
      let last = class_references_alike x y a.0 in
      rows_alike xs ys (After before (class_reference_tree x)) (After other (class_reference_tree y))
      (λ i. After (e i) (last i)) a.1

  held_alike : (x y : Held-ObjectClassTemplate-superclasses) → HeldAgree x y → held_tree x ≡ held_tree y
  held_alike None' None' a = refl
  held_alike None' (Some' _ _) a = absurd a
  held_alike (Some' _ _) None' a = absurd a
  held_alike (Some' _ row) (Some' _ row') a =
      ap (λ (t : Tree). Present (Pair Bare (Pair t Bare))) (rows_alike row row' Empty Empty refl a)

superclasses_alike : OneTreeBy (OptionsAgree (VectorsAgree ClassReferencesAgree)) superclasses_tree
superclasses_alike = listed_alike ClassReferencesAgree class_reference_tree class_references_alike

pub classes_alike : OneTreeBy ClassesAgree class_tree
classes_alike x y a =
    let numbers = a.0 in
    let labels = a.1 in
    let superclasses = superclasses_alike x.superclasses y.superclasses a.2 in
    let mandatory = packages_alike x.packages y.packages a.3 in
    let conditionals = conditionals_alike x.conditional y.conditional a.4 in
    let endings = registered_endings_alike x.registration y.registration a.5 in
    λ i. template_tree (numbers i) (labels i)
    (Pair (superclasses i) (Pair (mandatory i) (Pair (conditionals i) Bare))) (endings i)

-- the parts of a name binding
creations_alike : OneTreeBy CreationsAgree creation_tree
creations_alike x y a =
    let modifiers = a.0 in
    let parameters = parameter_rows_alike x.parameters y.parameters a.1 in
    λ i. Pair (optional_tree modifiers_tree (modifiers i)) (parameters i)

deletions_alike : OneTreeBy DeletionsAgree deletion_tree
deletions_alike x y a =
    let modifier = a.0 in
    let parameters = parameter_rows_alike x.parameters y.parameters a.1 in
    λ i. Pair (optional_tree Leaf (modifier i)) (parameters i)

scopes_alike : OneTreeBy ScopesAgree class_scope_tree
scopes_alike x y a =
    let named = class_references_alike x.class y.class a.0 in
    let subclasses = a.1 in
    λ i. Pair (named i) (optional_tree subclasses_tree (subclasses i))

scope_clauses_alike : OneTreeBy ScopesAgree (clause_tree class_scope_tree)
scope_clauses_alike = clauses_alike ScopesAgree class_scope_tree scopes_alike

naming_clauses_alike : OneTreeBy AttributeReferencesAgree (clause_tree attribute_reference_tree)
naming_clauses_alike = clauses_alike AttributeReferencesAgree attribute_reference_tree references_alike

pub name_bindings_alike : OneTreeBy NameBindingsAgree name_binding_tree
name_bindings_alike x y a =
    let numbers = a.0 in
    let labels = a.1 in
    let subordinate = scope_clauses_alike x.subordinate y.subordinate a.2 in
    let superior = scope_clauses_alike x.superior y.superior a.3 in
    let naming = naming_clauses_alike x.attribute y.attribute a.4 in
    let behaviours = behaviours_alike x.behaviour y.behaviour a.5 in
    let creation = optional_clause CreationsAgree creation_tree creations_alike x.create y.create a.6 in
    let deletion = optional_clause DeletionsAgree deletion_tree deletions_alike x.delete y.delete a.7 in
    let endings = registered_endings_alike x.registration y.registration a.8 in
    λ i. template_tree (numbers i) (labels i)
    (Pair (Present (subordinate i))
    (Pair (Present (superior i))
    (Pair (Present (naming i)) (Pair (behaviours i) (Pair (creation i) (Pair (deletion i) Bare)))))) (endings i)

templates_in_turn : {x y : ClassTemplate} → TemplatesAgree x y → class_template_tree x ≡ class_template_tree y
templates_in_turn (two_packages {x} {y} a) = ap First (package_templates_alike x y a)
templates_in_turn (two_classes {x} {y} a) = ap (λ (t : Tree). Second (First t)) (classes_alike x y a)
templates_in_turn (two_name_bindings {x} {y} a) = ap (λ (t : Tree). Second (Second t)) (name_bindings_alike x y a)

pub templates_alike : OneTreeBy TemplatesAgree class_template_tree
templates_alike x y a = templates_in_turn a
