-- Values that agree have one tree: groups, actions and notifications, and the templates of all six kinds.
use Rattle.std.proofs.Common.{◌≡◌, ap}
use Rattle.token_grammar.specs.Form.{Tree, Bare, Leaf, Pair, First, Second}
use Rattle.token_grammar.specs.Parts.{optional_tree, qualified_name_tree, vector_tree}
use Rattle.token_grammar.specs.PartLaws.{OneTreeBy, OptionsAgree}
use Rattle.token_grammar.proofs.Values.{options_alike}
use Rattle.gdmo_members.specs.declared.member.MemberTemplate.{MemberTemplate}
use Rattle.gdmo_members.specs.Trees.{clause_tree, behaviour_tree}
use Rattle.gdmo_members.specs.MemberTrees.{attribute_reference_tree, template_tree}
use Rattle.gdmo_members.specs.FurtherTrees.{word_clause_tree, group_tree, action_tree, field_tree, fields_tree}
use Rattle.gdmo_members.specs.FurtherTrees.{information_tree, notification_tree}
use Rattle.gdmo_members.specs.MemberTree.{member_tree}
use Rattle.gdmo_members.specs.Agreement.{AttributeReferencesAgree, GroupsAgree, ActionsAgree, FieldsAgree}
use Rattle.gdmo_members.specs.Agreement.{InformationAgrees, NotificationsAgree, MembersAgree, VectorsAgree}
use Rattle.gdmo_members.specs.Agreement.{two_behaviours, two_attributes, two_parameters, two_groups, two_actions}
use Rattle.gdmo_members.specs.Agreement.{two_notifications}
use Rattle.gdmo_members.proofs.SameTrees.{vectors_alike, optional_clause, behaviours_alike, parameters_alike}
use Rattle.gdmo_members.proofs.SameTrees.{registered_endings_alike, references_alike, attributes_alike}
use Rattle.gdmo_members.proofs.SameTrees.{parameter_templates_alike}

elements_alike : OneTreeBy (OptionsAgree (VectorsAgree AttributeReferencesAgree))
    (optional_tree (clause_tree (vector_tree attribute_reference_tree)))
elements_alike = optional_clause (VectorsAgree AttributeReferencesAgree) (vector_tree attribute_reference_tree)
    (vectors_alike AttributeReferencesAgree attribute_reference_tree references_alike)

pub groups_alike : OneTreeBy GroupsAgree group_tree
groups_alike x y a =
    let numbers = a.0 in
    let labels = a.1 in
    let elements = elements_alike x.elements y.elements a.2 in
    let fixed = a.3 in
    let description = a.4 in
    let endings = registered_endings_alike x.registration y.registration a.5 in
    λ i. template_tree (numbers i) (labels i)
    (Pair (elements i) (Pair (optional_tree word_clause_tree (fixed i))
    (Pair (optional_tree (clause_tree Leaf) (description i)) Bare))) (endings i)

pub actions_alike : OneTreeBy ActionsAgree action_tree
actions_alike x y a =
    let numbers = a.0 in
    let labels = a.1 in
    let behaviours = behaviours_alike x.behaviour y.behaviour a.2 in
    let mode = a.3 in
    let parameters = parameters_alike x.parameters y.parameters a.4 in
    let information = a.5 in
    let reply = a.6 in
    let endings = registered_endings_alike x.registration y.registration a.7 in
    λ i. template_tree (numbers i) (labels i)
    (Pair (behaviours i) (Pair (optional_tree (clause_tree Leaf) (mode i))
    (Pair (parameters i) (Pair (optional_tree (clause_tree qualified_name_tree) (information i))
    (Pair (optional_tree (clause_tree qualified_name_tree) (reply i)) Bare))))) (endings i)

fields_alike : OneTreeBy FieldsAgree field_tree
fields_alike x y a =
    let name = a.0 in
    let attribute = references_alike x.attribute y.attribute a.1 in
    λ i. Pair (Leaf (name i)) (attribute i)

field_lists_alike : OneTreeBy (VectorsAgree FieldsAgree) fields_tree
field_lists_alike x y a = ap (Pair Bare) (vectors_alike FieldsAgree field_tree fields_alike x y a)

information_alike : OneTreeBy InformationAgrees information_tree
information_alike x y a =
    let syntax = a.0 in
    let fields = options_alike (VectorsAgree FieldsAgree) fields_tree field_lists_alike x.fields y.fields a.1 in
    λ i. Pair (qualified_name_tree (syntax i)) (fields i)

pub notifications_alike : OneTreeBy NotificationsAgree notification_tree
notifications_alike x y a =
    let numbers = a.0 in
    let labels = a.1 in
    let behaviours = behaviours_alike x.behaviour y.behaviour a.2 in
    let parameters = parameters_alike x.parameters y.parameters a.3 in
    let information = optional_clause InformationAgrees information_tree information_alike x.information
    y.information a.4 in
    let reply = a.5 in
    let endings = registered_endings_alike x.registration y.registration a.6 in
    λ i. template_tree (numbers i) (labels i)
    (Pair (behaviours i) (Pair (parameters i)
    (Pair (information i) (Pair (optional_tree (clause_tree qualified_name_tree) (reply i)) Bare)))) (endings i)

members_in_turn : {x y : MemberTemplate} → MembersAgree x y → member_tree x ≡ member_tree y
members_in_turn (two_behaviours a) = λ i. First (behaviour_tree (a i))
members_in_turn (two_attributes {x} {y} a) = ap (λ (t : Tree). Second (First t)) (attributes_alike x y a)
members_in_turn (two_parameters {x} {y} a) =
    ap (λ (t : Tree). Second (Second (First t))) (parameter_templates_alike x y a)
members_in_turn (two_groups {x} {y} a) = ap (λ (t : Tree). Second (Second (Second (First t)))) (groups_alike x y a)
members_in_turn (two_actions {x} {y} a) =
    ap (λ (t : Tree). Second (Second (Second (Second (First t))))) (actions_alike x y a)
members_in_turn (two_notifications {x} {y} a) =
    ap (λ (t : Tree). Second (Second (Second (Second (Second t))))) (notifications_alike x y a)

pub members_alike : OneTreeBy MembersAgree member_tree
members_alike x y a = members_in_turn a
