-- Trees: what the values of the templates' parts say, one field after the other (X.722, section 8).
use Rattle.std.specs.Prelude.{Option}
use Rattle.std.specs.declared.alloc.Global.{Global}
use Rattle.std.specs.declared.vec.Vec.{Vec}
use Rattle.token_grammar.specs.declared.object_identifier.ObjectIdentifier.{ObjectIdentifier}
use Rattle.token_grammar.specs.Form.{Tree, Bare, Leaf, Pair, First, Second, Numbered}
use Rattle.token_grammar.specs.Parts.{optional_tree, vector_tree, label_reference_tree, object_identifier_tree}
use Rattle.gdmo_members.specs.declared.behaviour.BehaviourTemplate.{BehaviourTemplate}
use Rattle.gdmo_members.specs.declared.behaviour.BehaviourReference.{BehaviourReference}
use Rattle.gdmo_members.specs.declared.behaviour.BehaviourReference.TheVariants.{Label, Template}
use Rattle.gdmo_members.specs.declared.context.ContextWord.{ContextWord}
use Rattle.gdmo_members.specs.declared.context.Context.{Context}

-- a clause: its keywords, its part and its semicolon
abbrev pub clause_tree : {X : Type 0} → (X → Tree) → X → Tree
clause_tree view x = Pair Bare (Pair (view x) Bare)

abbrev pub behaviour_tree : BehaviourTemplate → Tree
behaviour_tree x = Numbered x.document (Pair (Leaf x.label) (Pair Bare (Pair (Leaf x.definition) Bare)))

abbrev pub behaviour_reference_tree : BehaviourReference → Tree
behaviour_reference_tree (Label label) = First (label_reference_tree label)
behaviour_reference_tree (Template template) = Second (behaviour_tree template)

abbrev pub behaviour_list_tree : Vec BehaviourReference Global → Tree
behaviour_list_tree xs = vector_tree behaviour_reference_tree xs

abbrev pub registration_tree : ObjectIdentifier → Tree
registration_tree x = Pair Bare (object_identifier_tree x)

abbrev pub ending_tree : Option ObjectIdentifier → Tree
ending_tree x = Pair (optional_tree registration_tree x) Bare

abbrev pub registered_ending_tree : ObjectIdentifier → Tree
registered_ending_tree x = Pair (registration_tree x) Bare

abbrev pub context_word_tree : ContextWord → Tree
context_word_tree x = Pair (optional_tree Leaf x.point) (Leaf x.word)

abbrev pub context_tree : Context → Tree
context_tree x = Pair (Leaf x.first) (vector_tree context_word_tree x.others)
