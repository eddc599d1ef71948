-- BindingTrees: what a name binding template says, and which of its clauses came (X.722, section 8.6).
use Rattle.std.specs.Prelude.{Bool, true, false, [], ◌∷◌, Option, option_map, codes}
use Rattle.token_grammar.specs.declared.token.Token.{Token}
use Rattle.token_grammar.specs.Form.{Tree, Bare, Leaf, Pair, First, Second, Present, Slots, Slot, NoSlots}
use Rattle.token_grammar.specs.TokenTests.{is_one_of}
use Rattle.token_grammar.specs.Parts.{optional_tree, vector_tree}
use Rattle.gdmo_members.specs.Clauses.{behaviour_clause}
use Rattle.gdmo_members.specs.Trees.{clause_tree, behaviour_list_tree, registered_ending_tree}
use Rattle.gdmo_members.specs.MemberTrees.{attribute_reference_tree, parameter_reference_tree, behaviours_tree}
use Rattle.gdmo_members.specs.MemberTrees.{template_tree}
use Rattle.gdmo_classes.specs.declared.creation.FurtherModifier.{FurtherModifier}
use Rattle.gdmo_classes.specs.declared.creation.ModifierRow.{ModifierRow}
use Rattle.gdmo_classes.specs.declared.creation.CreateModifiers.{CreateModifiers}
use Rattle.gdmo_classes.specs.declared.creation.CreateModifiers.TheVariants.{ReferenceFirst, NamingFirst}
use Rattle.gdmo_classes.specs.declared.creation.Creation.{Creation}
use Rattle.gdmo_classes.specs.declared.creation.Deletion.{Deletion}
use Rattle.gdmo_classes.specs.declared.name_binding.ClassScope.{ClassScope}
use Rattle.gdmo_classes.specs.declared.name_binding.NameBindingTemplate.{NameBindingTemplate}
use Rattle.gdmo_classes.specs.declared.name_binding.NameBindingDraft.{NameBindingDraft}
use Rattle.gdmo_classes.specs.declared.name_binding.NameBindingClauses.{NameBindingClauses}
use Rattle.gdmo_classes.specs.ClassForms.{subordinate_clause, superior_clause, naming_clause, create_clause}
use Rattle.gdmo_classes.specs.ClassForms.{delete_clause}
use Rattle.gdmo_classes.specs.ClassTrees.{class_reference_tree}

-- the create modifiers
abbrev pub further_tree : FurtherModifier → Tree
further_tree x = Pair (optional_tree Leaf x.comma) (Leaf x.word)

abbrev pub modifier_row_tree : ModifierRow → Tree
modifier_row_tree x = Pair (Leaf x.first) (optional_tree further_tree x.second)

abbrev pub modifiers_tree : CreateModifiers → Tree
modifiers_tree (ReferenceFirst row) = First (modifier_row_tree row)
modifiers_tree (NamingFirst row) = Second (modifier_row_tree row)

-- how objects are created and deleted
abbrev pub creation_tree : Creation → Tree
creation_tree x = Pair (optional_tree modifiers_tree x.modifiers) (vector_tree parameter_reference_tree x.parameters)

abbrev pub deletion_tree : Deletion → Tree
deletion_tree x = Pair (optional_tree Leaf x.modifier) (vector_tree parameter_reference_tree x.parameters)

-- a class, alone or with its subclasses
abbrev pub subclasses_tree : Token → Tree
subclasses_tree word = Pair Bare (Leaf word)

abbrev pub class_scope_tree : ClassScope → Tree
class_scope_tree x = Pair (class_reference_tree x.class) (optional_tree subclasses_tree x.subclasses)

abbrev pub creations_tree : Option Creation → Tree
creations_tree x = optional_tree (clause_tree creation_tree) x

abbrev pub deletions_tree : Option Deletion → Tree
deletions_tree x = optional_tree (clause_tree deletion_tree) x

abbrev pub name_binding_clauses_tree : NameBindingClauses → Tree
name_binding_clauses_tree x =
    Pair (Present (clause_tree class_scope_tree x.subordinate))
    (Pair (Present (clause_tree class_scope_tree x.superior))
    (Pair (Present (clause_tree attribute_reference_tree x.attribute))
    (Pair (behaviours_tree x.behaviour) (Pair (creations_tree x.create) (Pair (deletions_tree x.delete) Bare)))))

abbrev pub name_binding_tree : NameBindingTemplate → Tree
name_binding_tree x = template_tree x.document x.label
    (name_binding_clauses_tree
    (record {
      subordinate = x.subordinate;
      superior = x.superior;
      attribute = x.attribute;
      behaviour = x.behaviour;
      create = x.create;
      delete = x.delete;
    })) (registered_ending_tree x.registration)

-- the clauses of a name binding template, with what came so far, and the words with which they begin
abbrev pub name_binding_slots : NameBindingDraft → Slots
name_binding_slots x = Slot true subordinate_clause (option_map (clause_tree class_scope_tree) x.subordinate)
    (Slot true superior_clause (option_map (clause_tree class_scope_tree) x.superior)
    (Slot true naming_clause (option_map (clause_tree attribute_reference_tree) x.attribute)
    (Slot false behaviour_clause (option_map (clause_tree behaviour_list_tree) x.behaviour)
    (Slot false create_clause (option_map (clause_tree creation_tree) x.create)
    (Slot false delete_clause (option_map (clause_tree deletion_tree) x.delete) NoSlots)))))

abbrev pub is_name_binding_clause : Token → Bool
is_name_binding_clause =
    is_one_of (codes "SUBORDINATE" ∷ codes "NAMED" ∷ codes "WITH" ∷ codes "BEHAVIOUR" ∷ codes "CREATE" ∷ codes
    "DELETE" ∷ [])
