-- No two values have one tree: packages, classes, each with classes in line, name bindings, and the templates
-- of all three kinds.
use Rattle.std.proofs.Common.{◌≡◌, ℕ, ◌+◌, suc, ◌∙◌, ap, arith}
use Rattle.token_grammar.specs.Form.{Tree, Leaf, Empty, After}
use Rattle.token_grammar.specs.Parts.{optional_tree, vector_tree}
use Rattle.token_grammar.specs.PartLaws.{OneValue, OneValueBy, OptionsAgree}
use Rattle.token_grammar.proofs.Values.{parts_of, pair_same, first_same, second_same, present_same, after_same}
use Rattle.token_grammar.proofs.Values.{leaf_same, first_not_second, second_not_first, absent_not_present}
use Rattle.token_grammar.proofs.Values.{present_not_absent, options_agree, one_option, one_token, one_label_reference}
use Rattle.gdmo_members.specs.Trees.{clause_tree}
use Rattle.gdmo_members.specs.MemberTrees.{attribute_reference_tree}
use Rattle.gdmo_members.specs.Agreement.{AttributeReferencesAgree, VectorsAgree}
use Rattle.gdmo_members.proofs.Values.{vectors_agree, clauses_agree, behaviours_agree, endings_agree}
use Rattle.gdmo_members.proofs.Values.{registered_endings_agree, template_same, three_same, five_same}
use Rattle.gdmo_members.proofs.MemberValues.{references_agree}
use Rattle.gdmo_classes.specs.declared.package.PackageReference.TheVariants.{Label as PLabel, Template as PTemplate}
use Rattle.gdmo_classes.specs.declared.class.ObjectClassTemplate.{Row_of-ClassReference, end_of-ClassReference}
use Rattle.gdmo_classes.specs.declared.class.ObjectClassTemplate.{more_of-ClassReference}
use Rattle.gdmo_classes.specs.declared.class.ObjectClassTemplate.{Held-ObjectClassTemplate-superclasses, None', Some'}
use Rattle.gdmo_classes.specs.declared.class.ClassReference.{ClassReference}
use Rattle.gdmo_classes.specs.declared.class.ClassReference.TheVariants.{Label as CLabel, Template' as CTemplate}
use Rattle.gdmo_classes.specs.declared.creation.CreateModifiers.TheVariants.{ReferenceFirst, NamingFirst}
use Rattle.gdmo_classes.specs.declared.template.ClassTemplate.TheVariants.{Class, Package, NameBinding}
use Rattle.gdmo_classes.specs.UseTrees.{attribute_use_tree, group_use_tree, action_use_tree, notification_use_tree}
use Rattle.gdmo_classes.specs.PackageTrees.{package_tree, package_reference_tree, conditional_tree}
use Rattle.gdmo_classes.specs.ClassTrees.{class_tree, class_reference_tree, packages_tree, conditionals_tree}
use Rattle.gdmo_classes.specs.ClassTrees.{superclasses_tree, row_tree, held_tree}
use Rattle.gdmo_classes.specs.BindingTrees.{further_tree, modifier_row_tree, modifiers_tree, creation_tree}
use Rattle.gdmo_classes.specs.BindingTrees.{deletion_tree, subclasses_tree, class_scope_tree, name_binding_tree}
use Rattle.gdmo_classes.specs.TemplateTree.{class_template_tree}
use Rattle.gdmo_classes.specs.Agreement.{AttributeUsesAgree, GroupUsesAgree, ActionUsesAgree, NotificationUsesAgree}
use Rattle.gdmo_classes.specs.Agreement.{PackagesAgree, PackageReferencesAgree, ConditionalsAgree, ClassesAgree}
use Rattle.gdmo_classes.specs.Agreement.{ClassReferencesAgree, RowsAgree, HeldAgree, ScopesAgree, CreationsAgree}
use Rattle.gdmo_classes.specs.Agreement.{DeletionsAgree, NameBindingsAgree, TemplatesAgree, two_classes, two_packages}
use Rattle.gdmo_classes.specs.Agreement.{two_name_bindings}
use Rattle.gdmo_classes.proofs.UseValues.{six_same, parameter_rows_agree, attribute_uses_agree, group_uses_agree}
use Rattle.gdmo_classes.proofs.UseValues.{action_uses_agree, notification_uses_agree}

-- an optional clause with a part, and with a list of parts
optional_agrees : {X : Type 0} (agree : X → X → Type 0) (view : X → Tree) → OneValueBy agree view
    → OneValueBy (OptionsAgree agree) (optional_tree (clause_tree view))
optional_agrees agree view once = options_agree agree (clause_tree view) (clauses_agree agree view once)

listed_agree : {X : Type 0} (agree : X → X → Type 0) (view : X → Tree) → OneValueBy agree view
    → OneValueBy (OptionsAgree (VectorsAgree agree)) (optional_tree (clause_tree (vector_tree view)))
listed_agree agree view once = optional_agrees (VectorsAgree agree) (vector_tree view) (vectors_agree agree view once)

-- packages
pub one_package : OneValueBy PackagesAgree package_tree
one_package x y e =
    let parts = template_same e in
    let clauses = five_same parts.2 in (
      parts.0,
      parts.1,
      behaviours_agree x.behaviour y.behaviour clauses.0,
      listed_agree AttributeUsesAgree attribute_use_tree attribute_uses_agree x.attributes y.attributes clauses.1,
      listed_agree GroupUsesAgree group_use_tree group_uses_agree x.groups y.groups clauses.2,
      listed_agree ActionUsesAgree action_use_tree action_uses_agree x.actions y.actions clauses.3,
      listed_agree NotificationUsesAgree notification_use_tree notification_uses_agree x.notifications y.notifications
          clauses.4,
      endings_agree x.registration y.registration parts.3,
    )

pub package_references_agree : OneValueBy PackageReferencesAgree package_reference_tree
package_references_agree (PLabel x) (PLabel y) e = one_label_reference x y (first_same e)
package_references_agree (PLabel x) (PTemplate y) e = absurd (first_not_second e)
package_references_agree (PTemplate x) (PLabel y) e = absurd (second_not_first e)
package_references_agree (PTemplate x) (PTemplate y) e = one_package x y (second_same e)

packages_agree : OneValueBy (OptionsAgree (VectorsAgree PackageReferencesAgree)) packages_tree
packages_agree = listed_agree PackageReferencesAgree package_reference_tree package_references_agree

conditional_agrees : OneValueBy ConditionalsAgree conditional_tree
conditional_agrees x y e = let parts =
    pair_same e in (package_references_agree x.package y.package parts.0, leaf_same (pair_same parts.1).1)

conditionals_agree : OneValueBy (OptionsAgree (VectorsAgree ConditionalsAgree)) conditionals_tree
conditionals_agree = listed_agree ConditionalsAgree conditional_tree conditional_agrees

-- how many parts a row of classes has, and its tree
abbrev row_size : {n : _} → Row_of-ClassReference n → ℕ
row_size end_of-ClassReference = 0
row_size (more_of-ClassReference x xs) = suc (row_size xs)

one_more : (a b : ℕ) → suc a + b ≡ a + suc b
one_more a b = omega arith

parts_of_row : {n : _} (before : Tree) (row : Row_of-ClassReference n)
    → parts_of (row_tree before row) ≡ parts_of before + row_size row
parts_of_row before end_of-ClassReference = omega arith
parts_of_row before (more_of-ClassReference x xs) =
    parts_of_row (After before (class_reference_tree x)) xs ∙ one_more (parts_of before) (row_size xs)

mutual
  pub class_references_agree : (x y : ClassReference) → class_reference_tree x ≡ class_reference_tree y
      → ClassReferencesAgree x y
  class_references_agree (CLabel x) (CLabel y) e = one_label_reference x y (first_same e)
  class_references_agree (CLabel x) (CTemplate _ _ _ _ _ _ _) e = absurd (first_not_second e)
  class_references_agree (CTemplate _ _ _ _ _ _ _) (CLabel y) e = absurd (second_not_first e)
  class_references_agree (CTemplate _ document label superclasses packages conditional registration)
      (CTemplate _ document' label' superclasses' packages' conditional' registration') e =
      let parts = template_same (second_same e) in
      let clauses = three_same parts.2 in (
        parts.0,
        parts.1,
        held_agree superclasses superclasses' clauses.0,
        packages_agree packages packages' clauses.1,
        conditionals_agree conditional conditional' clauses.2,
        registered_endings_agree registration registration' parts.3,
      )

  rows_behind : {n m : _} (x : Row_of-ClassReference n) (y : Row_of-ClassReference m) (before other : Tree)
      → row_size x ≡ row_size y → row_tree before x ≡ row_tree other y → (before ≡ other) × RowsAgree x y
  rows_behind end_of-ClassReference end_of-ClassReference before other same e = (e, tt)
  rows_behind end_of-ClassReference (more_of-ClassReference y ys) before other same e = absurd (omega arith)
  rows_behind (more_of-ClassReference x xs) end_of-ClassReference before other same e = absurd (omega arith)
  rows_behind (more_of-ClassReference x xs) (more_of-ClassReference y ys) before other same e =
      let behind = rows_behind xs ys (After before (class_reference_tree x)) (After other (class_reference_tree y))
      (omega arith) e in
      let last = after_same behind.0 in
      (last.0, (class_references_agree x y last.1, behind.1))

  held_agree : (x y : Held-ObjectClassTemplate-superclasses) → held_tree x ≡ held_tree y → HeldAgree x y
  held_agree None' None' e = tt
  held_agree None' (Some' _ _) e = absurd (absent_not_present e)
  held_agree (Some' _ _) None' e = absurd (present_not_absent e)
  held_agree (Some' _ row) (Some' _ row') e =
      let same = (pair_same (pair_same (present_same e)).1).0 in
      let left = parts_of_row Empty row in
      let right = parts_of_row Empty row' in
      let parts = ap parts_of same in
      (rows_behind row row' Empty Empty (omega arith) same).1

superclasses_agree : OneValueBy (OptionsAgree (VectorsAgree ClassReferencesAgree)) superclasses_tree
superclasses_agree = listed_agree ClassReferencesAgree class_reference_tree class_references_agree

pub one_class : OneValueBy ClassesAgree class_tree
one_class x y e =
    let parts = template_same e in
    let clauses = three_same parts.2 in (
      parts.0,
      parts.1,
      superclasses_agree x.superclasses y.superclasses clauses.0,
      packages_agree x.packages y.packages clauses.1,
      conditionals_agree x.conditional y.conditional clauses.2,
      registered_endings_agree x.registration y.registration parts.3,
    )

-- the parts of a name binding
one_further : OneValue further_tree
one_further x y e =
    let parts = pair_same e in
    let comma = one_option Leaf one_token x.comma y.comma parts.0 in
    let word = leaf_same parts.1 in
    λ i. record { comma = comma i; word = word i }

one_modifier_row : OneValue modifier_row_tree
one_modifier_row x y e =
    let parts = pair_same e in
    let first = leaf_same parts.0 in
    let second = one_option further_tree one_further x.second y.second parts.1 in
    λ i. record { first = first i; second = second i }

one_modifiers : OneValue modifiers_tree
one_modifiers (ReferenceFirst x) (ReferenceFirst y) e = ap ReferenceFirst (one_modifier_row x y (first_same e))
one_modifiers (ReferenceFirst x) (NamingFirst y) e = absurd (first_not_second e)
one_modifiers (NamingFirst x) (ReferenceFirst y) e = absurd (second_not_first e)
one_modifiers (NamingFirst x) (NamingFirst y) e = ap NamingFirst (one_modifier_row x y (second_same e))

creations_agree : OneValueBy CreationsAgree creation_tree
creations_agree x y e = let parts =
    pair_same e in (
      one_option modifiers_tree one_modifiers x.modifiers y.modifiers parts.0,
      parameter_rows_agree x.parameters y.parameters parts.1,
    )

deletions_agree : OneValueBy DeletionsAgree deletion_tree
deletions_agree x y e = let parts =
    pair_same e in (
      one_option Leaf one_token x.modifier y.modifier parts.0,
      parameter_rows_agree x.parameters y.parameters parts.1,
    )

one_subclasses : OneValue subclasses_tree
one_subclasses x y e = leaf_same (pair_same e).1

scopes_agree : OneValueBy ScopesAgree class_scope_tree
scopes_agree x y e = let parts =
    pair_same e in (
      class_references_agree x.class y.class parts.0,
      one_option subclasses_tree one_subclasses x.subclasses y.subclasses parts.1,
    )

scope_clauses_agree : OneValueBy ScopesAgree (clause_tree class_scope_tree)
scope_clauses_agree = clauses_agree ScopesAgree class_scope_tree scopes_agree

naming_clauses_agree : OneValueBy AttributeReferencesAgree (clause_tree attribute_reference_tree)
naming_clauses_agree = clauses_agree AttributeReferencesAgree attribute_reference_tree references_agree

pub one_name_binding : OneValueBy NameBindingsAgree name_binding_tree
one_name_binding x y e =
    let parts = template_same e in
    let clauses = six_same parts.2 in (
      parts.0,
      parts.1,
      scope_clauses_agree x.subordinate y.subordinate (present_same clauses.0),
      scope_clauses_agree x.superior y.superior (present_same clauses.1),
      naming_clauses_agree x.attribute y.attribute (present_same clauses.2),
      behaviours_agree x.behaviour y.behaviour clauses.3,
      optional_agrees CreationsAgree creation_tree creations_agree x.create y.create clauses.4,
      optional_agrees DeletionsAgree deletion_tree deletions_agree x.delete y.delete clauses.5,
      registered_endings_agree x.registration y.registration parts.3,
    )

pub one_template : OneValueBy TemplatesAgree class_template_tree
one_template (Package x) (Package y) e = two_packages (one_package x y (first_same e))
one_template (Package x) (Class y) e = absurd (first_not_second e)
one_template (Package x) (NameBinding y) e = absurd (first_not_second e)
one_template (Class x) (Package y) e = absurd (second_not_first e)
one_template (Class x) (Class y) e = two_classes (one_class x y (first_same (second_same e)))
one_template (Class x) (NameBinding y) e = absurd (first_not_second (second_same e))
one_template (NameBinding x) (Package y) e = absurd (second_not_first e)
one_template (NameBinding x) (Class y) e = absurd (second_not_first (second_same e))
one_template (NameBinding x) (NameBinding y) e = two_name_bindings (one_name_binding x y (second_same (second_same e)))
