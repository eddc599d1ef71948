-- PresenceTree: what OPTIONAL and DEFAULT say (X.208, section 20.1).
use Rattle.std.specs.declared.alloc.Global.{Global}
use Rattle.std.specs.declared.boxed.Box.{Box}
use Rattle.token_grammar.specs.Form.{Tree, Bare, Leaf, Pair, First, Second}
use Rattle.asn1_values_syntax.specs.ValueTrees.{value_tree}
use Rattle.asn1_syntax.specs.declared.presence.Presence.{Presence}
use Rattle.asn1_syntax.specs.declared.presence.Presence.TheVariants.{Optional, Default}

abbrev pub presence_tree : Presence → Tree
presence_tree (Optional word) = First (Leaf word)
presence_tree (Default value) = Second (Pair Bare (value_tree value))

-- one that is held in a box
abbrev pub boxed_presence_tree : Box Presence Global → Tree
boxed_presence_tree x = presence_tree x.value
