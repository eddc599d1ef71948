-- The lines of a report, with labels that are found in maps and lists that were made before.
use Rattle.std.proofs.Common.{◌≡◌, ℕ, List, ap, ◌∙◌, ◌++◌}
use Rattle.std.specs.Prelude.{codes, flat_map, map}
use Rattle.std.specs.BTreeMap.{BTreeMap}
use Rattle.term_model.specs.declared.name_binding.BindRec.{BindRec}
use Rattle.term_model.specs.declared.schema.ClassRec.{ClassRec}
use Rattle.term_model.specs.declared.schema.Set.{Set}
use Rattle.set_report.specs.declared.class_lists.Listed.TheVariants as listed
use Rattle.set_report.specs.ClassLists.{inherited, unregistered_in}
use Rattle.set_report.specs.Labels.{HasLabels, action_labels, binding_labels, class_labels, label_in, label_of}
use Rattle.set_report.specs.Labels.{notification_labels, package_labels, text_or_none}
use Rattle.set_report.specs.Orders.{in_order}
use Rattle.set_report.specs.ReportLines.{entry_line, entry_lines, unregistered_lines}
use Rattle.set_report.specs.ReportText.{action_lines, attribute_lines, attribute_part, binding_lines}
use Rattle.set_report.specs.ReportText.{conditional_lines, listed_of, notification_lines, required_lines, super_lines}

abbrev Map : Type 0
Map = BTreeMap (List ℕ) (List ℕ)

-- a map gives the labels that it has
lines_named : (word : List ℕ) (labels : Map) (named : List (List ℕ × List ℕ)) (ids : List (List ℕ))
    → HasLabels labels named → entry_lines word (label_in labels) ids ≡ entry_lines word (label_of named) ids
lines_named word labels named ids has =
    λ i. flat_map (λ (id : List ℕ). entry_line word id (text_or_none (has id i))) ids

lines_are : (word : List ℕ) (labels : Map) (named : List (List ℕ × List ℕ)) (ids whole : List (List ℕ))
    → HasLabels labels named → ids ≡ whole
    → entry_lines word (label_in labels) ids ≡ entry_lines word (label_of named) whole
lines_are word labels named ids whole has same =
    lines_named word labels named ids has ∙ ap (entry_lines word (label_of named)) same

pub supers_are : (schema : Set) (of_class : ClassRec) (labels : Map) (ids : List (List ℕ))
    → HasLabels labels (class_labels schema.classes) → ids ≡ in_order of_class.superclasses
    → entry_lines (codes " super ") (label_in labels) ids ≡ super_lines schema of_class
unfolding super_lines
supers_are schema of_class labels ids has same = lines_are (codes " super ") labels _ ids _ has same

pub actions_are : (schema : Set) (of_class : ClassRec) (labels : Map) (ids : List (List ℕ))
    → HasLabels labels (action_labels schema.actions) → ids ≡ listed_of schema listed.Actions of_class
    → entry_lines (codes " action ") (label_in labels) ids ≡ action_lines schema of_class
unfolding action_lines
actions_are schema of_class labels ids has same = lines_are (codes " action ") labels _ ids _ has same

pub notifications_are : (schema : Set) (of_class : ClassRec) (labels : Map) (ids : List (List ℕ))
    → HasLabels labels (notification_labels schema.notifications)
    → ids ≡ listed_of schema listed.Notifications of_class
    → entry_lines (codes " notification ") (label_in labels) ids ≡ notification_lines schema of_class
unfolding notification_lines
notifications_are schema of_class labels ids has same = lines_are (codes " notification ") labels _ ids _ has same

pub conditional_are : (schema : Set) (of_class : ClassRec) (labels : Map) (unregistered ids : List (List ℕ))
    → HasLabels labels (package_labels schema.classes)
    → unregistered ≡ inherited schema.classes unregistered_in of_class.id
    → ids ≡ listed_of schema listed.Packages of_class
    → unregistered_lines unregistered ++ entry_lines (codes " conditional ") (label_in labels) ids
    ≡ conditional_lines schema of_class
unfolding conditional_lines
conditional_are schema of_class labels unregistered ids has first same =
    ap (λ xs. unregistered_lines xs ++ entry_lines (codes " conditional ") (label_in labels) ids) first
    ∙ ap
    (λ xs. unregistered_lines (inherited schema.classes unregistered_in of_class.id) ++ xs)
    (lines_are (codes " conditional ") labels _ ids _ has same)

pub attributes_are : (schema : Set) (of_class : ClassRec) (ids : List (List ℕ))
    → ids ≡ listed_of schema listed.Attributes of_class
    → attribute_lines schema of_class ids ++ required_lines schema of_class ids ≡ attribute_part schema of_class
unfolding attribute_part
attributes_are schema of_class ids same =
    ap (λ xs. attribute_lines schema of_class xs ++ required_lines schema of_class xs) same

pub bindings_are : (schema : Set) (labels : Map) (ids : List (List ℕ))
    → HasLabels labels (binding_labels schema.bindings)
    → ids ≡ in_order (map (λ (binding : BindRec). binding.id) schema.bindings)
    → entry_lines (codes "binding ") (label_in labels) ids ≡ binding_lines schema
unfolding binding_lines
bindings_are schema labels ids has same = lines_are (codes "binding ") labels _ ids _ has same
