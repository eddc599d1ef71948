-- UseTrees: what a package says of its attributes, attribute groups, actions and notifications (X.722,
-- section 8.4).
use Rattle.std.specs.Prelude.{false, option_map, Vec}
use Rattle.std.specs.declared.alloc.Global.{Global}
use Rattle.gdmo_members.specs.declared.parameter.ParameterReference.{ParameterReference}
use Rattle.token_grammar.specs.declared.qualified_name.QualifiedName.{QualifiedName}
use Rattle.token_grammar.specs.Form.{Tree, Bare, Leaf, Pair, First, Second, Slots, Slot, NoSlots, slots_tree}
use Rattle.token_grammar.specs.Parts.{label_reference_tree, qualified_name_tree, vector_tree}
use Rattle.gdmo_members.specs.Trees.{behaviour_reference_tree}
use Rattle.gdmo_members.specs.MemberTrees.{attribute_reference_tree, parameter_reference_tree}
use Rattle.gdmo_members.specs.FurtherTrees.{group_tree, action_tree, notification_tree}
use Rattle.gdmo_classes.specs.declared.references.GroupReference.{GroupReference}
use Rattle.gdmo_classes.specs.declared.references.GroupReference.TheVariants.{Label as GLabel, Template as GTemplate}
use Rattle.gdmo_classes.specs.declared.references.ActionReference.{ActionReference}
use Rattle.gdmo_classes.specs.declared.references.ActionReference.TheVariants.{Label as ALabel, Template as ATemplate}
use Rattle.gdmo_classes.specs.declared.references.NotificationReference.{NotificationReference}
use Rattle.gdmo_classes.specs.declared.references.NotificationReference.TheVariants.{Label as NLabel}
use Rattle.gdmo_classes.specs.declared.references.NotificationReference.TheVariants.{Template as NTemplate}
use Rattle.gdmo_classes.specs.declared.member_use.GroupUse.{GroupUse}
use Rattle.gdmo_classes.specs.declared.member_use.ActionUse.{ActionUse}
use Rattle.gdmo_classes.specs.declared.member_use.NotificationUse.{NotificationUse}
use Rattle.gdmo_classes.specs.declared.properties.PropertyValue.{PropertyValue}
use Rattle.gdmo_classes.specs.declared.properties.PropertyValue.TheVariants.{Value, Rule}
use Rattle.gdmo_classes.specs.declared.properties.Properties.{Properties}
use Rattle.gdmo_classes.specs.declared.attribute_use.AttributeUse.{AttributeUse}
use Rattle.gdmo_classes.specs.ClassForms.{reset_property, default_property, initial_property, permitted_property}
use Rattle.gdmo_classes.specs.ClassForms.{required_property, access_property, members_property}

abbrev pub group_reference_tree : GroupReference → Tree
group_reference_tree (GLabel label) = First (label_reference_tree label)
group_reference_tree (GTemplate template) = Second (group_tree template)

abbrev pub action_reference_tree : ActionReference → Tree
action_reference_tree (ALabel label) = First (label_reference_tree label)
action_reference_tree (ATemplate template) = Second (action_tree template)

abbrev pub notification_reference_tree : NotificationReference → Tree
notification_reference_tree (NLabel label) = First (label_reference_tree label)
notification_reference_tree (NTemplate template) = Second (notification_tree template)

-- what names a group, an action or a notification, and the references behind it
abbrev pub group_use_tree : GroupUse → Tree
group_use_tree x = Pair (group_reference_tree x.group) (vector_tree attribute_reference_tree x.attributes)

abbrev pub action_use_tree : ActionUse → Tree
action_use_tree x = Pair (action_reference_tree x.action) (vector_tree parameter_reference_tree x.parameters)

abbrev pub notification_use_tree : NotificationUse → Tree
notification_use_tree x =
    Pair (notification_reference_tree x.notification) (vector_tree parameter_reference_tree x.parameters)

-- a value, and the property that has it
abbrev pub property_value_tree : PropertyValue → Tree
property_value_tree (Value name) = First (qualified_name_tree name)
property_value_tree (Rule rule) = Second (Pair Bare (behaviour_reference_tree rule))

abbrev pub valued_tree : PropertyValue → Tree
valued_tree x = Pair Bare (property_value_tree x)

abbrev pub named_type_tree : QualifiedName → Tree
named_type_tree x = Pair Bare (qualified_name_tree x)

-- the properties of an attribute that came
abbrev pub properties_slots : Properties → Slots
properties_slots x = Slot false reset_property (option_map Leaf x.replace_with_default)
    (Slot false default_property (option_map valued_tree x.default_value)
    (Slot false initial_property (option_map valued_tree x.initial_value)
    (Slot false permitted_property (option_map named_type_tree x.permitted_values)
    (Slot false required_property (option_map named_type_tree x.required_values)
    (Slot false access_property (option_map Leaf x.access)
    (Slot false members_property (option_map Leaf x.members) NoSlots))))))

abbrev pub properties_tree : Properties → Tree
properties_tree x = slots_tree (properties_slots x)

abbrev pub use_parts_tree : Properties × Vec ParameterReference Global → Tree
use_parts_tree x = Pair (properties_tree x.0) (vector_tree parameter_reference_tree x.1)

abbrev pub attribute_use_tree : AttributeUse → Tree
attribute_use_tree x = Pair (attribute_reference_tree x.attribute)
    (Pair (properties_tree x.properties) (vector_tree parameter_reference_tree x.parameters))
