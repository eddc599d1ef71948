-- FurtherTrees: what group, action and notification templates say, and which of their clauses came (X.722,
-- sections 8.8, 8.10 and 8.11).
use Rattle.std.specs.Prelude.{Bool, false, [], ◌∷◌, option_map, codes}
use Rattle.std.specs.declared.alloc.Global.{Global}
use Rattle.std.specs.declared.vec.Vec.{Vec}
use Rattle.token_grammar.specs.declared.token.Token.{Token}
use Rattle.token_grammar.specs.Form.{Keep, Tree, Bare, Leaf, Pair, Slots, Slot, NoSlots, slots_tree}
use Rattle.token_grammar.specs.TokenTests.{is_one_of, is_string, is_word_of}
use Rattle.token_grammar.specs.Parts.{either, optional_tree, qualified_name, qualified_name_tree, vector_tree}
use Rattle.gdmo_members.specs.declared.group.GroupTemplate.{GroupTemplate}
use Rattle.gdmo_members.specs.declared.group.GroupClauses.{GroupClauses}
use Rattle.gdmo_members.specs.declared.action.ActionTemplate.{ActionTemplate}
use Rattle.gdmo_members.specs.declared.action.ActionClauses.{ActionClauses}
use Rattle.gdmo_members.specs.declared.notification.NotificationTemplate.{NotificationTemplate}
use Rattle.gdmo_members.specs.declared.notification.NotificationClauses.{NotificationClauses}
use Rattle.gdmo_members.specs.declared.notification.Field.{Field}
use Rattle.gdmo_members.specs.declared.notification.Information.{Information}
use Rattle.gdmo_members.specs.Clauses.{attributes, behaviour_clause, parameters_clause, clause, comma, flag, references}
use Rattle.gdmo_members.specs.Clauses.{word_clause}
use Rattle.gdmo_members.specs.Templates.{information_clause, reply_clause}
use Rattle.gdmo_members.specs.Trees.{clause_tree, behaviour_list_tree, registered_ending_tree}
use Rattle.gdmo_members.specs.MemberTrees.{attribute_reference_tree, parameter_reference_tree, template_tree}

-- a keyword that is kept, and a semicolon
abbrev pub word_clause_tree : Token → Tree
word_clause_tree x = Pair (Leaf x) Bare

-- the clauses of a group's template, with what came so far, and the words with which they begin
abbrev pub group_slots : GroupClauses → Slots
group_slots x = Slot false (clause (codes "GROUP" ∷ codes "ELEMENTS" ∷ []) (references attributes))
    (option_map (clause_tree (vector_tree attribute_reference_tree)) x.elements)
    (Slot false (word_clause (codes "FIXED")) (option_map word_clause_tree x.fixed)
    (Slot false (clause (codes "DESCRIPTION" ∷ []) (Keep is_string))
    (option_map (clause_tree Leaf) x.description) NoSlots))

abbrev pub group_clauses_tree : GroupClauses → Tree
group_clauses_tree x = slots_tree (group_slots x)

abbrev pub group_tree : GroupTemplate → Tree
group_tree x = template_tree x.document x.label
    (group_clauses_tree (record { elements = x.elements; fixed = x.fixed; description = x.description }))
    (registered_ending_tree x.registration)

abbrev pub is_group_clause : Token → Bool
is_group_clause = is_one_of (codes "GROUP" ∷ codes "FIXED" ∷ codes "DESCRIPTION" ∷ [])

-- the same of an action's template
abbrev pub action_slots : ActionClauses → Slots
action_slots x = Slot false behaviour_clause (option_map (clause_tree behaviour_list_tree) x.behaviour)
    (Slot false (flag (codes "MODE" ∷ []) (codes "CONFIRMED")) (option_map (clause_tree Leaf) x.mode)
    (Slot false parameters_clause (option_map (clause_tree (vector_tree parameter_reference_tree)) x.parameters)
    (Slot false (clause (codes "WITH" ∷ codes "INFORMATION" ∷ codes "SYNTAX" ∷ []) qualified_name)
    (option_map (clause_tree qualified_name_tree) x.information)
    (Slot false reply_clause (option_map (clause_tree qualified_name_tree) x.reply) NoSlots))))

abbrev pub action_clauses_tree : ActionClauses → Tree
action_clauses_tree x = slots_tree (action_slots x)

abbrev pub action_tree : ActionTemplate → Tree
action_tree x = template_tree x.document x.label
    (action_clauses_tree (record {
      behaviour = x.behaviour;
      mode = x.mode;
      parameters = x.parameters;
      information =
          x.information;
      reply = x.reply;
    })) (registered_ending_tree x.registration)

abbrev pub is_action_clause : Token → Bool
is_action_clause = is_one_of (codes "BEHAVIOUR" ∷ codes "MODE" ∷ codes "PARAMETERS" ∷ codes "WITH" ∷ [])

-- a component that is an attribute, and the information of a notification
abbrev pub field_tree : Field → Tree
field_tree x = Pair (Leaf x.name) (attribute_reference_tree x.attribute)

abbrev pub fields_tree : Vec Field Global → Tree
fields_tree xs = Pair Bare (vector_tree field_tree xs)

abbrev pub information_tree : Information → Tree
information_tree x = Pair (qualified_name_tree x.syntax) (optional_tree fields_tree x.fields)

-- the tokens with which a notification's information may go on
abbrev pub is_field_end : Token → Bool
is_field_end = either (is_word_of (codes "AND")) (either comma (is_word_of (codes "ATTRIBUTE")))

-- the same of a notification's template
abbrev pub notification_slots : NotificationClauses → Slots
notification_slots x = Slot false behaviour_clause (option_map (clause_tree behaviour_list_tree) x.behaviour)
    (Slot false parameters_clause (option_map (clause_tree (vector_tree parameter_reference_tree)) x.parameters)
    (Slot false information_clause (option_map (clause_tree information_tree) x.information)
    (Slot false reply_clause (option_map (clause_tree qualified_name_tree) x.reply) NoSlots)))

abbrev pub notification_clauses_tree : NotificationClauses → Tree
notification_clauses_tree x = slots_tree (notification_slots x)

abbrev pub notification_tree : NotificationTemplate → Tree
notification_tree x = template_tree x.document x.label
    (notification_clauses_tree
    (record { behaviour = x.behaviour; parameters = x.parameters; information = x.information; reply = x.reply }))
    (registered_ending_tree x.registration)

abbrev pub is_notification_clause : Token → Bool
is_notification_clause = is_one_of (codes "BEHAVIOUR" ∷ codes "PARAMETERS" ∷ codes "WITH" ∷ [])
