-- No two values have one tree: what a package says of its attributes, groups, actions and notifications.
use Rattle.std.proofs.Common.{◌≡◌, ap}
use Rattle.token_grammar.specs.Form.{Tree, Bare, Leaf, Pair}
use Rattle.token_grammar.specs.PartLaws.{OneValue, OneValueBy}
use Rattle.token_grammar.proofs.Values.{pair_same, first_same, second_same, first_not_second, second_not_first}
use Rattle.token_grammar.proofs.Values.{one_option, one_token, one_label_reference, one_qualified_name}
use Rattle.gdmo_members.specs.MemberTrees.{attribute_reference_tree, parameter_reference_tree}
use Rattle.gdmo_members.specs.Agreement.{AttributeReferencesAgree, ParameterReferencesAgree, VectorsAgree}
use Rattle.token_grammar.specs.Parts.{vector_tree}
use Rattle.gdmo_members.proofs.Values.{vectors_agree, one_behaviour_reference, five_same}
use Rattle.gdmo_members.proofs.MemberValues.{references_agree, parameter_references_agree}
use Rattle.gdmo_members.proofs.FurtherValues.{one_group, one_action, one_notification}
use Rattle.gdmo_classes.specs.declared.references.GroupReference.TheVariants.{Label as GLabel, Template as GTemplate}
use Rattle.gdmo_classes.specs.declared.references.ActionReference.TheVariants.{Label as ALabel, Template as ATemplate}
use Rattle.gdmo_classes.specs.declared.references.NotificationReference.TheVariants.{Label as NLabel}
use Rattle.gdmo_classes.specs.declared.references.NotificationReference.TheVariants.{Template as NTemplate}
use Rattle.gdmo_classes.specs.declared.properties.PropertyValue.TheVariants.{Value, Rule}
use Rattle.gdmo_classes.specs.UseTrees.{group_reference_tree, action_reference_tree, notification_reference_tree}
use Rattle.gdmo_classes.specs.UseTrees.{group_use_tree, action_use_tree, notification_use_tree, property_value_tree}
use Rattle.gdmo_classes.specs.UseTrees.{valued_tree, named_type_tree, properties_tree, attribute_use_tree}
use Rattle.gdmo_classes.specs.Agreement.{GroupReferencesAgree, ActionReferencesAgree, NotificationReferencesAgree}
use Rattle.gdmo_classes.specs.Agreement.{AttributeUsesAgree, GroupUsesAgree, ActionUsesAgree, NotificationUsesAgree}

-- parts, as many as there are
pub six_same : {a a' b b' c c' d d' f f' g g' : Tree}
    → Pair a (Pair b (Pair c (Pair d (Pair f (Pair g Bare))))) ≡ Pair a'
    (Pair b' (Pair c' (Pair d' (Pair f' (Pair g' Bare))))) → (a ≡ a') × (b ≡ b') × (c ≡ c') × (d ≡ d')
    × (f ≡ f') × (g ≡ g')
six_same e =
    let one = pair_same e in
    let five = five_same one.1 in
    (one.0, five.0, five.1, five.2, five.3, five.4)

seven_same : {a a' b b' c c' d d' f f' g g' h h' : Tree}
    → Pair a (Pair b (Pair c (Pair d (Pair f (Pair g (Pair h Bare)))))) ≡ Pair a'
    (Pair b' (Pair c' (Pair d' (Pair f' (Pair g' (Pair h' Bare)))))) → (a ≡ a') × (b ≡ b') × (c ≡ c') × (d ≡ d')
    × (f ≡ f') × (g ≡ g') × (h ≡ h')
seven_same e =
    let one = pair_same e in
    let six = six_same one.1 in
    (one.0, six.0, six.1, six.2, six.3, six.4, six.5)

-- what names a group, an action or a notification
pub group_references_agree : OneValueBy GroupReferencesAgree group_reference_tree
group_references_agree (GLabel x) (GLabel y) e = one_label_reference x y (first_same e)
group_references_agree (GLabel x) (GTemplate y) e = absurd (first_not_second e)
group_references_agree (GTemplate x) (GLabel y) e = absurd (second_not_first e)
group_references_agree (GTemplate x) (GTemplate y) e = one_group x y (second_same e)

pub action_references_agree : OneValueBy ActionReferencesAgree action_reference_tree
action_references_agree (ALabel x) (ALabel y) e = one_label_reference x y (first_same e)
action_references_agree (ALabel x) (ATemplate y) e = absurd (first_not_second e)
action_references_agree (ATemplate x) (ALabel y) e = absurd (second_not_first e)
action_references_agree (ATemplate x) (ATemplate y) e = one_action x y (second_same e)

pub notification_references_agree : OneValueBy NotificationReferencesAgree notification_reference_tree
notification_references_agree (NLabel x) (NLabel y) e = one_label_reference x y (first_same e)
notification_references_agree (NLabel x) (NTemplate y) e = absurd (first_not_second e)
notification_references_agree (NTemplate x) (NLabel y) e = absurd (second_not_first e)
notification_references_agree (NTemplate x) (NTemplate y) e = one_notification x y (second_same e)

-- rows of references
attribute_rows_agree : OneValueBy (VectorsAgree AttributeReferencesAgree) (vector_tree attribute_reference_tree)
attribute_rows_agree = vectors_agree AttributeReferencesAgree attribute_reference_tree references_agree

pub parameter_rows_agree : OneValueBy (VectorsAgree ParameterReferencesAgree) (vector_tree parameter_reference_tree)
parameter_rows_agree = vectors_agree ParameterReferencesAgree parameter_reference_tree parameter_references_agree

-- the properties of an attribute
one_property_value : OneValue property_value_tree
one_property_value (Value x) (Value y) e = ap Value (one_qualified_name x y (first_same e))
one_property_value (Value x) (Rule y) e = absurd (first_not_second e)
one_property_value (Rule x) (Value y) e = absurd (second_not_first e)
one_property_value (Rule x) (Rule y) e = ap Rule (one_behaviour_reference x y (pair_same (second_same e)).1)

one_valued : OneValue valued_tree
one_valued x y e = one_property_value x y (pair_same e).1

one_named_type : OneValue named_type_tree
one_named_type x y e = one_qualified_name x y (pair_same e).1

pub one_properties : OneValue properties_tree
one_properties x y e =
    let parts = seven_same e in
    let resets = one_option Leaf one_token x.replace_with_default y.replace_with_default parts.0 in
    let defaults = one_option valued_tree one_valued x.default_value y.default_value parts.1 in
    let initials = one_option valued_tree one_valued x.initial_value y.initial_value parts.2 in
    let permitted = one_option named_type_tree one_named_type x.permitted_values y.permitted_values parts.3 in
    let required = one_option named_type_tree one_named_type x.required_values y.required_values parts.4 in
    let access = one_option Leaf one_token x.access y.access parts.5 in
    let members = one_option Leaf one_token x.members y.members parts.6 in
    λ i. record {
      replace_with_default = resets i;
      default_value = defaults i;
      initial_value = initials i;
      permitted_values = permitted i;
      required_values = required i;
      access = access i;
      members = members i;
    }

-- what a package says of its attributes, groups, actions and notifications
pub attribute_uses_agree : OneValueBy AttributeUsesAgree attribute_use_tree
attribute_uses_agree x y e =
    let parts = pair_same e in
    let others = pair_same parts.1 in (
      references_agree x.attribute y.attribute parts.0,
      one_properties x.properties y.properties others.0,
      parameter_rows_agree x.parameters y.parameters others.1,
    )

pub group_uses_agree : OneValueBy GroupUsesAgree group_use_tree
group_uses_agree x y e = let parts =
    pair_same e in (
      group_references_agree x.group y.group parts.0,
      attribute_rows_agree x.attributes y.attributes parts.1,
    )

pub action_uses_agree : OneValueBy ActionUsesAgree action_use_tree
action_uses_agree x y e = let parts =
    pair_same e in (
      action_references_agree x.action y.action parts.0,
      parameter_rows_agree x.parameters y.parameters parts.1,
    )

pub notification_uses_agree : OneValueBy NotificationUsesAgree notification_use_tree
notification_uses_agree x y e = let parts =
    pair_same e in (
      notification_references_agree x.notification y.notification parts.0,
      parameter_rows_agree x.parameters y.parameters parts.1,
    )
