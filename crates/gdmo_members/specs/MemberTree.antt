-- MemberTree: what a template of a package's member says (X.722, section 8).
use Rattle.token_grammar.specs.Form.{Tree, First, Second}
use Rattle.gdmo_members.specs.declared.member.MemberTemplate.{MemberTemplate}
use Rattle.gdmo_members.specs.declared.member.MemberTemplate.TheVariants.{Attribute, Group, Action, Notification}
use Rattle.gdmo_members.specs.declared.member.MemberTemplate.TheVariants.{Parameter, Behaviour}
use Rattle.gdmo_members.specs.Trees.{behaviour_tree}
use Rattle.gdmo_members.specs.MemberTrees.{attribute_tree, parameter_tree}
use Rattle.gdmo_members.specs.FurtherTrees.{group_tree, action_tree, notification_tree}

abbrev pub member_tree : MemberTemplate → Tree
member_tree (Behaviour x) = First (behaviour_tree x)
member_tree (Attribute x) = Second (First (attribute_tree x))
member_tree (Parameter x) = Second (Second (First (parameter_tree x)))
member_tree (Group x) = Second (Second (Second (First (group_tree x))))
member_tree (Action x) = Second (Second (Second (Second (First (action_tree x)))))
member_tree (Notification x) = Second (Second (Second (Second (Second (notification_tree x)))))
