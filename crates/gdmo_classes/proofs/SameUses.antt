-- Values that agree have one tree: what a package says of its attributes, groups, actions and notifications.
use Rattle.std.proofs.Common.{ap}
use Rattle.token_grammar.specs.Form.{Pair, First, Second}
use Rattle.token_grammar.specs.Parts.{label_reference_tree, vector_tree}
use Rattle.token_grammar.specs.PartLaws.{OneTreeBy}
use Rattle.gdmo_members.specs.MemberTrees.{attribute_reference_tree, parameter_reference_tree}
use Rattle.gdmo_members.specs.Agreement.{AttributeReferencesAgree, ParameterReferencesAgree, VectorsAgree}
use Rattle.gdmo_members.proofs.SameTrees.{vectors_alike, references_alike, parameter_references_alike}
use Rattle.gdmo_members.proofs.FurtherSameTrees.{groups_alike, actions_alike, notifications_alike}
use Rattle.gdmo_classes.specs.declared.references.GroupReference.TheVariants.{Label as GLabel, Template as GTemplate}
use Rattle.gdmo_classes.specs.declared.references.ActionReference.TheVariants.{Label as ALabel, Template as ATemplate}
use Rattle.gdmo_classes.specs.declared.references.NotificationReference.TheVariants.{Label as NLabel}
use Rattle.gdmo_classes.specs.declared.references.NotificationReference.TheVariants.{Template as NTemplate}
use Rattle.gdmo_classes.specs.UseTrees.{group_reference_tree, action_reference_tree, notification_reference_tree}
use Rattle.gdmo_classes.specs.UseTrees.{group_use_tree, action_use_tree, notification_use_tree, properties_tree}
use Rattle.gdmo_classes.specs.UseTrees.{attribute_use_tree}
use Rattle.gdmo_classes.specs.Agreement.{GroupReferencesAgree, ActionReferencesAgree, NotificationReferencesAgree}
use Rattle.gdmo_classes.specs.Agreement.{AttributeUsesAgree, GroupUsesAgree, ActionUsesAgree, NotificationUsesAgree}

-- what names a group, an action or a notification
pub group_references_alike : OneTreeBy GroupReferencesAgree group_reference_tree
group_references_alike (GLabel x) (GLabel y) a = λ i. First (label_reference_tree (a i))
group_references_alike (GLabel x) (GTemplate y) a = absurd a
group_references_alike (GTemplate x) (GLabel y) a = absurd a
group_references_alike (GTemplate x) (GTemplate y) a = ap Second (groups_alike x y a)

pub action_references_alike : OneTreeBy ActionReferencesAgree action_reference_tree
action_references_alike (ALabel x) (ALabel y) a = λ i. First (label_reference_tree (a i))
action_references_alike (ALabel x) (ATemplate y) a = absurd a
action_references_alike (ATemplate x) (ALabel y) a = absurd a
action_references_alike (ATemplate x) (ATemplate y) a = ap Second (actions_alike x y a)

pub notification_references_alike : OneTreeBy NotificationReferencesAgree notification_reference_tree
notification_references_alike (NLabel x) (NLabel y) a = λ i. First (label_reference_tree (a i))
notification_references_alike (NLabel x) (NTemplate y) a = absurd a
notification_references_alike (NTemplate x) (NLabel y) a = absurd a
notification_references_alike (NTemplate x) (NTemplate y) a = ap Second (notifications_alike x y a)

-- rows of references
attribute_rows_alike : OneTreeBy (VectorsAgree AttributeReferencesAgree) (vector_tree attribute_reference_tree)
attribute_rows_alike = vectors_alike AttributeReferencesAgree attribute_reference_tree references_alike

pub parameter_rows_alike : OneTreeBy (VectorsAgree ParameterReferencesAgree) (vector_tree parameter_reference_tree)
parameter_rows_alike = vectors_alike ParameterReferencesAgree parameter_reference_tree parameter_references_alike

-- what a package says of its attributes, groups, actions and notifications
pub attribute_uses_alike : OneTreeBy AttributeUsesAgree attribute_use_tree
attribute_uses_alike x y a =
    let attribute = references_alike x.attribute y.attribute a.0 in
    let properties = a.1 in
    let parameters = parameter_rows_alike x.parameters y.parameters a.2 in
    λ i. Pair (attribute i) (Pair (properties_tree (properties i)) (parameters i))

pub group_uses_alike : OneTreeBy GroupUsesAgree group_use_tree
group_uses_alike x y a =
    let group = group_references_alike x.group y.group a.0 in
    let attributes = attribute_rows_alike x.attributes y.attributes a.1 in
    λ i. Pair (group i) (attributes i)

pub action_uses_alike : OneTreeBy ActionUsesAgree action_use_tree
action_uses_alike x y a =
    let action = action_references_alike x.action y.action a.0 in
    let parameters = parameter_rows_alike x.parameters y.parameters a.1 in
    λ i. Pair (action i) (parameters i)

pub notification_uses_alike : OneTreeBy NotificationUsesAgree notification_use_tree
notification_uses_alike x y a =
    let notification = notification_references_alike x.notification y.notification a.0 in
    let parameters = parameter_rows_alike x.parameters y.parameters a.1 in
    λ i. Pair (notification i) (parameters i)
