-- No two values have one tree: groups, actions and notifications, and the templates of all six kinds.
use Rattle.std.proofs.Common.{◌≡◌, Option}
use Rattle.token_grammar.specs.Form.{Tree, Leaf}
use Rattle.token_grammar.specs.Parts.{optional_tree, qualified_name_tree, vector_tree}
use Rattle.token_grammar.specs.PartLaws.{OneValue, OneValueBy, OptionsAgree}
use Rattle.token_grammar.proofs.Values.{pair_same, leaf_same, first_same, second_same, first_not_second}
use Rattle.token_grammar.proofs.Values.{second_not_first, options_agree, one_option, one_token, one_qualified_name}
use Rattle.gdmo_members.specs.declared.member.MemberTemplate.TheVariants.{Attribute, Group, Action, Notification}
use Rattle.gdmo_members.specs.declared.member.MemberTemplate.TheVariants.{Parameter, Behaviour}
use Rattle.gdmo_members.specs.Trees.{clause_tree}
use Rattle.gdmo_members.specs.MemberTrees.{attribute_reference_tree}
use Rattle.gdmo_members.specs.FurtherTrees.{word_clause_tree, group_tree, action_tree, field_tree, fields_tree}
use Rattle.gdmo_members.specs.FurtherTrees.{information_tree, notification_tree}
use Rattle.gdmo_members.specs.MemberTree.{member_tree}
use Rattle.gdmo_members.specs.Agreement.{AttributeReferencesAgree, GroupsAgree, ActionsAgree, FieldsAgree}
use Rattle.gdmo_members.specs.Agreement.{InformationAgrees, NotificationsAgree, MembersAgree, VectorsAgree}
use Rattle.gdmo_members.specs.Agreement.{two_behaviours, two_attributes, two_parameters, two_groups, two_actions}
use Rattle.gdmo_members.specs.Agreement.{two_notifications}
use Rattle.gdmo_members.proofs.Values.{vectors_agree, clauses_agree, behaviours_agree, registered_endings_agree}
use Rattle.gdmo_members.proofs.Values.{one_behaviour, template_same, three_same, four_same, five_same}
use Rattle.gdmo_members.proofs.MemberValues.{references_agree, parameters_agree, one_attribute, one_parameter}

-- an optional clause with one part
one_clause : {X : Type 0} (view : X → Tree) → OneValue view → (x y : Option X)
    → optional_tree (clause_tree view) x ≡ optional_tree (clause_tree view) y → x ≡ y
one_clause view once = one_option (clause_tree view) (clauses_agree ◌≡◌ view once)

one_word_clause : (x y : _) → optional_tree word_clause_tree x ≡ optional_tree word_clause_tree y → x ≡ y
one_word_clause = one_option word_clause_tree (λ x y e. leaf_same (pair_same e).0)

elements_agree : OneValueBy (OptionsAgree (VectorsAgree AttributeReferencesAgree))
    (optional_tree (clause_tree (vector_tree attribute_reference_tree)))
elements_agree = options_agree (VectorsAgree AttributeReferencesAgree)
    (clause_tree (vector_tree attribute_reference_tree))
    (clauses_agree (VectorsAgree AttributeReferencesAgree) (vector_tree attribute_reference_tree)
    (vectors_agree AttributeReferencesAgree attribute_reference_tree references_agree))

pub one_group : OneValueBy GroupsAgree group_tree
one_group x y e =
    let parts = template_same e in
    let clauses = three_same parts.2 in (
      parts.0,
      parts.1,
      elements_agree x.elements y.elements clauses.0,
      one_word_clause x.fixed y.fixed clauses.1,
      one_clause Leaf one_token x.description y.description clauses.2,
      registered_endings_agree x.registration y.registration parts.3,
    )

pub one_action : OneValueBy ActionsAgree action_tree
one_action x y e =
    let parts = template_same e in
    let clauses = five_same parts.2 in (
      parts.0,
      parts.1,
      behaviours_agree x.behaviour y.behaviour clauses.0,
      one_clause Leaf one_token x.mode y.mode clauses.1,
      parameters_agree x.parameters y.parameters clauses.2,
      one_clause qualified_name_tree one_qualified_name x.information y.information clauses.3,
      one_clause qualified_name_tree one_qualified_name x.reply y.reply clauses.4,
      registered_endings_agree x.registration y.registration parts.3,
    )

fields_agree : OneValueBy FieldsAgree field_tree
fields_agree x y e = let parts = pair_same e in (leaf_same parts.0, references_agree x.attribute y.attribute parts.1)

field_lists_agree : OneValueBy (VectorsAgree FieldsAgree) fields_tree
field_lists_agree x y e = vectors_agree FieldsAgree field_tree fields_agree x y (pair_same e).1

information_agrees : OneValueBy InformationAgrees information_tree
information_agrees x y e = let parts =
    pair_same e in (
      one_qualified_name x.syntax y.syntax parts.0,
      options_agree (VectorsAgree FieldsAgree) fields_tree field_lists_agree x.fields y.fields parts.1,
    )

pub one_notification : OneValueBy NotificationsAgree notification_tree
one_notification x y e =
    let parts = template_same e in
    let clauses = four_same parts.2 in (
      parts.0,
      parts.1,
      behaviours_agree x.behaviour y.behaviour clauses.0,
      parameters_agree x.parameters y.parameters clauses.1,
      options_agree InformationAgrees (clause_tree information_tree)
          (clauses_agree InformationAgrees information_tree information_agrees) x.information y.information clauses.2,
      one_clause qualified_name_tree one_qualified_name x.reply y.reply clauses.3,
      registered_endings_agree x.registration y.registration parts.3,
    )

pub one_member : OneValueBy MembersAgree member_tree
one_member (Behaviour x) (Behaviour y) e = two_behaviours (one_behaviour x y (first_same e))
one_member (Behaviour x) (Attribute y) e = absurd (first_not_second e)
one_member (Behaviour x) (Parameter y) e = absurd (first_not_second e)
one_member (Behaviour x) (Group y) e = absurd (first_not_second e)
one_member (Behaviour x) (Action y) e = absurd (first_not_second e)
one_member (Behaviour x) (Notification y) e = absurd (first_not_second e)
one_member (Attribute x) (Behaviour y) e = absurd (second_not_first e)
one_member (Attribute x) (Attribute y) e = two_attributes (one_attribute x y (first_same (second_same e)))
one_member (Attribute x) (Parameter y) e = absurd (first_not_second (second_same e))
one_member (Attribute x) (Group y) e = absurd (first_not_second (second_same e))
one_member (Attribute x) (Action y) e = absurd (first_not_second (second_same e))
one_member (Attribute x) (Notification y) e = absurd (first_not_second (second_same e))
one_member (Parameter x) (Behaviour y) e = absurd (second_not_first e)
one_member (Parameter x) (Attribute y) e = absurd (second_not_first (second_same e))
one_member (Parameter x) (Parameter y) e = two_parameters (one_parameter x y (first_same (second_same (second_same e))))
one_member (Parameter x) (Group y) e = absurd (first_not_second (second_same (second_same e)))
one_member (Parameter x) (Action y) e = absurd (first_not_second (second_same (second_same e)))
one_member (Parameter x) (Notification y) e = absurd (first_not_second (second_same (second_same e)))
one_member (Group x) (Behaviour y) e = absurd (second_not_first e)
one_member (Group x) (Attribute y) e = absurd (second_not_first (second_same e))
one_member (Group x) (Parameter y) e = absurd (second_not_first (second_same (second_same e)))
one_member (Group x) (Group y) e = two_groups (one_group x y (first_same (second_same (second_same (second_same e)))))
one_member (Group x) (Action y) e = absurd (first_not_second (second_same (second_same (second_same e))))
one_member (Group x) (Notification y) e = absurd (first_not_second (second_same (second_same (second_same e))))
one_member (Action x) (Behaviour y) e = absurd (second_not_first e)
one_member (Action x) (Attribute y) e = absurd (second_not_first (second_same e))
one_member (Action x) (Parameter y) e = absurd (second_not_first (second_same (second_same e)))
one_member (Action x) (Group y) e = absurd (second_not_first (second_same (second_same (second_same e))))
one_member (Action x) (Action y) e =
    two_actions (one_action x y (first_same (second_same (second_same (second_same (second_same e))))))
one_member (Action x) (Notification y) e =
    absurd (first_not_second (second_same (second_same (second_same (second_same e)))))
one_member (Notification x) (Behaviour y) e = absurd (second_not_first e)
one_member (Notification x) (Attribute y) e = absurd (second_not_first (second_same e))
one_member (Notification x) (Parameter y) e = absurd (second_not_first (second_same (second_same e)))
one_member (Notification x) (Group y) e = absurd (second_not_first (second_same (second_same (second_same e))))
one_member (Notification x) (Action y) e =
    absurd (second_not_first (second_same (second_same (second_same (second_same e)))))
one_member (Notification x) (Notification y) e =
    two_notifications (one_notification x y (second_same (second_same (second_same (second_same (second_same e))))))
