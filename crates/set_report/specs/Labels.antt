-- The labels under which the parts of a schema are registered: X.722, section 8, REGISTERED AS.
use Rattle.std.specs.Prelude.{◌≡◌, ℕ, List, [], ◌∷◌, ◌++◌, Option, find, flat_map, map}
use Rattle.std.specs.BTreeMap.{BTreeMap, get}
use Rattle.std.specs.Cmp.Lexicographic.{slice_cmp}
use Rattle.std.specs.Option.{option_map, option_map_or}
use Rattle.std.specs.Ordering.{nat_cmp}
use Rattle.term_model.specs.declared.actions.ActRec.{ActRec}
use Rattle.term_model.specs.declared.actions.NoteRec.{NoteRec}
use Rattle.term_model.specs.declared.name_binding.BindRec.{BindRec}
use Rattle.term_model.specs.declared.packages.PackageRec.{PackageRec}
use Rattle.term_model.specs.declared.schema.AttrRec.{AttrRec}
use Rattle.term_model.specs.declared.schema.ClassRec.{ClassRec}
use Rattle.term_model.specs.Comparing.{is_same_oid}

-- the first of these labels that stands under an identifier, where one does
abbrev pub label_among : List (List ℕ × List ℕ) → List ℕ → Option (List ℕ)
label_among named id =
    option_map (λ (one : List ℕ × List ℕ). one.1) (find (λ (one : List ℕ × List ℕ). is_same_oid one.0 id) named)

-- a text, and none where there is none
abbrev pub text_or_none : Option (List ℕ) → List ℕ
text_or_none label = option_map_or (λ (text : List ℕ). text) label []

-- the label of an identifier; there is none where nothing is registered under it
abbrev pub label_of : List (List ℕ × List ℕ) → List ℕ → List ℕ
label_of named id = text_or_none (label_among named id)

abbrev pub class_labels : List ClassRec → List (List ℕ × List ℕ)
class_labels classes = map (λ (of_class : ClassRec). (of_class.id, of_class.label)) classes

abbrev pub attribute_labels : List AttrRec → List (List ℕ × List ℕ)
attribute_labels attributes = map (λ (of_attribute : AttrRec). (of_attribute.id, of_attribute.label)) attributes

abbrev pub action_labels : List ActRec → List (List ℕ × List ℕ)
action_labels actions = map (λ (of_action : ActRec). (of_action.id, of_action.label)) actions

abbrev pub notification_labels : List NoteRec → List (List ℕ × List ℕ)
notification_labels notifications = map (λ (of_note : NoteRec). (of_note.id, of_note.label)) notifications

abbrev pub binding_labels : List BindRec → List (List ℕ × List ℕ)
binding_labels bindings = map (λ (binding : BindRec). (binding.id, binding.label)) bindings

-- the label of a package, where that is registered
abbrev pub package_label : PackageRec → List (List ℕ × List ℕ)
package_label of_package = option_map_or (λ (id : List ℕ). (id, of_package.label) ∷ []) of_package.id []

-- those of the conditional packages of classes
abbrev pub package_labels : List ClassRec → List (List ℕ × List ℕ)
package_labels classes = flat_map (λ (of_class : ClassRec). flat_map package_label of_class.conditional) classes

-- a map has the label that stands first under each identifier
abbrev pub HasLabels : BTreeMap (List ℕ) (List ℕ) → List (List ℕ × List ℕ) → Type 0
HasLabels labels named = (q : List ℕ) → get (slice_cmp nat_cmp) labels q ≡ label_among named q

-- the label that a map has under an identifier
abbrev pub label_in : BTreeMap (List ℕ) (List ℕ) → List ℕ → List ℕ
label_in labels id = text_or_none (get (slice_cmp nat_cmp) labels id)

-- to a map further labels were added, behind those that it has
abbrev pub AddsLabels : BTreeMap (List ℕ) (List ℕ) → BTreeMap (List ℕ) (List ℕ) → List (List ℕ × List ℕ) → Type 0
AddsLabels before after added =
    (named : List (List ℕ × List ℕ)) → HasLabels before named → HasLabels after (named ++ added)
