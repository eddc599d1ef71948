-- PackageTrees: what a package template says, and which of its clauses came (X.722, section 8.4).
use Rattle.std.specs.Prelude.{Bool, false, [], ◌∷◌, option_map, codes}
use Rattle.token_grammar.specs.declared.token.Token.{Token}
use Rattle.token_grammar.specs.Form.{Tree, Bare, Leaf, Pair, First, Second, Slots, Slot, NoSlots, slots_tree}
use Rattle.token_grammar.specs.TokenTests.{is_one_of}
use Rattle.token_grammar.specs.Parts.{label_reference_tree, vector_tree}
use Rattle.gdmo_members.specs.Clauses.{behaviour_clause}
use Rattle.gdmo_members.specs.Trees.{clause_tree, behaviour_list_tree, ending_tree}
use Rattle.gdmo_members.specs.MemberTrees.{template_tree}
use Rattle.gdmo_classes.specs.declared.package.PackageTemplate.{PackageTemplate}
use Rattle.gdmo_classes.specs.declared.package.PackageClauses.{PackageClauses}
use Rattle.gdmo_classes.specs.declared.package.PackageReference.{PackageReference}
use Rattle.gdmo_classes.specs.declared.package.PackageReference.TheVariants.{Label, Template}
use Rattle.gdmo_classes.specs.declared.class.ConditionalPackage.{ConditionalPackage}
use Rattle.gdmo_classes.specs.ClassForms.{attributes_clause, groups_clause, actions_clause, notifications_clause}
use Rattle.gdmo_classes.specs.UseTrees.{attribute_use_tree, group_use_tree, action_use_tree, notification_use_tree}

abbrev pub package_slots : PackageClauses → Slots
package_slots x = Slot false behaviour_clause (option_map (clause_tree behaviour_list_tree) x.behaviour)
    (Slot false attributes_clause (option_map (clause_tree (vector_tree attribute_use_tree)) x.attributes)
    (Slot false groups_clause (option_map (clause_tree (vector_tree group_use_tree)) x.groups)
    (Slot false actions_clause (option_map (clause_tree (vector_tree action_use_tree)) x.actions)
    (Slot false notifications_clause
    (option_map (clause_tree (vector_tree notification_use_tree)) x.notifications) NoSlots))))

abbrev pub package_clauses_tree : PackageClauses → Tree
package_clauses_tree x = slots_tree (package_slots x)

abbrev pub package_tree : PackageTemplate → Tree
package_tree x = template_tree x.document x.label
    (package_clauses_tree (record {
      behaviour = x.behaviour;
      attributes = x.attributes;
      groups = x.groups;
      actions =
          x.actions;
      notifications = x.notifications;
    })) (ending_tree x.registration)

-- the words with which a package's clauses begin
abbrev pub is_package_clause : Token → Bool
is_package_clause = is_one_of
    (codes "BEHAVIOUR" ∷ codes "ATTRIBUTES" ∷ codes "ATTRIBUTE" ∷ codes "ACTIONS" ∷ codes "NOTIFICATIONS" ∷ [])

abbrev pub package_reference_tree : PackageReference → Tree
package_reference_tree (Label label) = First (label_reference_tree label)
package_reference_tree (Template template) = Second (package_tree template)

-- when some objects have a package
abbrev pub condition_tree : Token → Tree
condition_tree text = Pair Bare (Leaf text)

-- a package that some objects have, and when they have it
abbrev pub conditional_tree : ConditionalPackage → Tree
conditional_tree x = Pair (package_reference_tree x.package) (Pair Bare (Leaf x.condition))
