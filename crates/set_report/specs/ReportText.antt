-- The text of a compiled schema, as `report` prints it: X.722, section 8; docs/PROFILE.md, section 19.
use Rattle.std.specs.Prelude.{ℕ, List, [], ◌++◌, codes, flat_map, map}
use Rattle.std.specs.Option.{option_map_or}
use Rattle.term_model.specs.declared.name_binding.BindRec.{BindRec}
use Rattle.term_model.specs.declared.packages.Property.{Property}
use Rattle.term_model.specs.declared.schema.ClassRec.{ClassRec}
use Rattle.term_model.specs.declared.schema.Set.{Set}
use Rattle.term_model.specs.ClassAttributes.{property_of}
use Rattle.term_model.specs.ControlSyntaxes.{discriminator_attributes, log_attributes}
use Rattle.term_model.specs.ObjectOperation.{class_record}
use Rattle.bound_classes.specs.BoundLabels.{is_label_bound}
use Rattle.set_report.specs.declared.class_lists.Listed.{Listed}
use Rattle.set_report.specs.declared.class_lists.Listed.TheVariants as listed
use Rattle.set_report.specs.ClassLists.{inherited, listed_in, unregistered_in}
use Rattle.set_report.specs.Labels.{action_labels, attribute_labels, binding_labels, class_labels, label_of}
use Rattle.set_report.specs.Labels.{notification_labels, package_labels}
use Rattle.set_report.specs.Orders.{in_order}
use Rattle.set_report.specs.ReportLines.{attribute_line, bound_line, entry_line, entry_lines, type_lines}
use Rattle.set_report.specs.ReportLines.{unregistered_lines}

-- what a class has of a kind, with what it inherits
abbrev pub listed_of : Set → Listed → ClassRec → List (List ℕ)
listed_of schema kind of_class = inherited schema.classes (listed_in kind) of_class.id

-- the direct superclasses
unfoldable pub super_lines : Set → ClassRec → List ℕ
super_lines schema of_class =
    entry_lines (codes " super ") (label_of (class_labels schema.classes)) (in_order of_class.superclasses)

-- an attribute, with the operations that the packages of the class join for it, the conditional ones too
abbrev pub attribute_of : Set → ClassRec → List ℕ → List ℕ
attribute_of schema of_class id =
    attribute_line id (label_of (attribute_labels schema.attributes) id) (property_of schema of_class.id id)

abbrev pub attribute_lines : Set → ClassRec → List (List ℕ) → List ℕ
attribute_lines schema of_class ids = flat_map (attribute_of schema of_class) ids

-- its REQUIRED VALUES, the types that they join by the octets of their names
abbrev pub required_types : Set → ClassRec → List ℕ → List (List ℕ)
required_types schema of_class id =
    option_map_or (λ (property : Property). in_order property.required) (property_of schema of_class.id id) []

unfoldable pub required_of : Set → ClassRec → List ℕ → List ℕ
required_of schema of_class id = type_lines (codes " required ") id (required_types schema of_class id)

abbrev pub required_lines : Set → ClassRec → List (List ℕ) → List ℕ
required_lines schema of_class ids = flat_map (required_of schema of_class) ids

-- the attributes, and behind all of them the types that are required of them
unfoldable pub attribute_part : Set → ClassRec → List ℕ
attribute_part schema of_class =
    attribute_lines schema of_class (listed_of schema listed.Attributes of_class)
    ++ required_lines schema of_class (listed_of schema listed.Attributes of_class)

unfoldable pub action_lines : Set → ClassRec → List ℕ
action_lines schema of_class =
    entry_lines (codes " action ") (label_of (action_labels schema.actions)) (listed_of schema listed.Actions of_class)

unfoldable pub notification_lines : Set → ClassRec → List ℕ
notification_lines schema of_class =
    entry_lines (codes " notification ") (label_of (notification_labels schema.notifications))
    (listed_of schema listed.Notifications of_class)

-- the conditional packages: those that aren't registered, by label, and behind them the others
unfoldable pub conditional_lines : Set → ClassRec → List ℕ
conditional_lines schema of_class =
    unregistered_lines (inherited schema.classes unregistered_in of_class.id)
    ++ entry_lines (codes " conditional ") (label_of (package_labels schema.classes))
    (listed_of schema listed.Packages of_class)

unfoldable pub member_lines : Set → ClassRec → List ℕ
member_lines schema of_class =
    attribute_part schema of_class
    ++ (action_lines schema of_class
    ++ (notification_lines schema of_class ++ conditional_lines schema of_class))

-- a class
unfoldable pub class_text : Set → ClassRec → List ℕ
class_text schema of_class =
    entry_line (codes "class ") of_class.id of_class.label
    ++ (super_lines schema of_class ++ member_lines schema of_class)

-- the classes
abbrev pub class_text_of : Set → List ℕ → List ℕ
class_text_of schema id = option_map_or (class_text schema) (class_record schema.classes id) []

unfoldable pub class_texts : Set → List ℕ
class_texts schema =
    flat_map (class_text_of schema) (in_order (map (λ (of_class : ClassRec). of_class.id) schema.classes))

-- the name bindings
unfoldable pub binding_lines : Set → List ℕ
binding_lines schema =
    entry_lines (codes "binding ") (label_of (binding_labels schema.bindings))
    (in_order (map (λ (binding : BindRec). binding.id) schema.bindings))

unfoldable pub bound_lines : Set → List ℕ
bound_lines schema =
    bound_line (codes "eventForwardingDiscriminator")
    (is_label_bound schema (codes "eventForwardingDiscriminator") discriminator_attributes)
    ++ bound_line (codes "log") (is_label_bound schema (codes "log") log_attributes)

-- the whole text
unfoldable pub report_text : Set → List ℕ
report_text schema = class_texts schema ++ (binding_lines schema ++ bound_lines schema)
