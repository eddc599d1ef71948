-- TypeTrees: what types say, one field after the other (X.680, section 17; X.208, sections 20 to 27).
use Rattle.std.specs.Prelude.{Option}
use Rattle.std.specs.declared.alloc.Global.{Global}
use Rattle.std.specs.declared.boxed.Box.{Box}
use Rattle.std.specs.declared.vec.Vec.{Vec}
use Rattle.token_grammar.specs.declared.token.Token.{Token}
use Rattle.token_grammar.specs.Form.{Tree, Bare, Leaf, Pair, First, Second, Absent, Present, Empty, After, Numbered}
use Rattle.token_grammar.specs.Parts.{optional_tree, vector_tree}
use Rattle.asn1_values_syntax.specs.declared.constraint.Constraint.{Constraint}
use Rattle.asn1_syntax.specs.declared.presence.Presence.{Presence}
use Rattle.asn1_syntax.specs.declared.type_text.TypeText.{TypeText, Row_of-Alternative, end_of-Alternative}
use Rattle.asn1_syntax.specs.declared.type_text.TypeText.{more_of-Alternative}
use Rattle.asn1_syntax.specs.declared.type_text.TypeText.TheVariants.{Tagged', Structured, Choice', Plain}
use Rattle.asn1_syntax.specs.declared.type_text.StructureText.{StructureText, Row_of-Component, end_of-Component}
use Rattle.asn1_syntax.specs.declared.type_text.StructureText.{more_of-Component, Held-StructureText-Components-0}
use Rattle.asn1_syntax.specs.declared.type_text.StructureText.{None', Some'}
use Rattle.asn1_syntax.specs.declared.type_text.StructureText.TheVariants.{Components', ListOf'}
use Rattle.asn1_syntax.specs.declared.type_text.Component.{Component}
use Rattle.asn1_syntax.specs.declared.type_text.Alternative.{Alternative}
use Rattle.asn1_values_syntax.specs.ConstraintTrees.{constraint_tree, list_size_tree}
use Rattle.asn1_values_syntax.specs.NamedNumberTrees.{tag_tree}
use Rattle.asn1_syntax.specs.PlainTrees.{plain_type_tree}
use Rattle.asn1_syntax.specs.PresenceTree.{boxed_presence_tree}

abbrev pub constraints_tree : Vec Constraint Global → Tree
constraints_tree xs = vector_tree constraint_tree xs

-- a component, with what its type says
abbrev pub component_parts : Token → Tree → Option (Box Presence Global) → Tree
component_parts name of presence = Pair (Leaf name) (Pair of (optional_tree boxed_presence_tree presence))

-- No text says the number that stands before what says a type: a type has none of its own, and it is 0.
abbrev mutual
  pub type_tree : TypeText → Tree
  type_tree (Tagged' tag mode place of) = Numbered 0 (First (Pair (tag_tree tag.value)
      (Pair (optional_tree Leaf mode) (type_tree of))))
  type_tree (Structured word content) = Numbered 0 (Second (First (Pair (Leaf word) (structure_tree content))))
  type_tree (Choice' word shape row constraints) = Numbered 0 (Second
      (Second (First (Pair (Leaf word) (Pair Bare (Pair (alternatives_row Empty row)
      (Pair Bare (constraints_tree constraints))))))))
  type_tree (Plain of constraints) = Numbered 0 (Second (Second (Second
      (Pair (plain_type_tree of) (constraints_tree constraints)))))

  pub structure_tree : StructureText → Tree
  structure_tree (Components' components constraints) = First (Pair Bare
      (Pair (components_held components) (Pair Bare (constraints_tree constraints))))
  structure_tree (ListOf' size place of) = Second (Pair (optional_tree list_size_tree size)
      (Pair Bare (type_tree of)))

  pub components_held : Held-StructureText-Components-0 → Tree
  components_held None' = Absent
  components_held (Some' shape row) = Present (components_row Empty row)

  pub components_row : {n : _} → Tree → Row_of-Component n → Tree
  components_row before end_of-Component = before
  components_row before (more_of-Component name of presence others) = components_row
      (After before (component_parts name (type_tree of) presence)) others

  pub alternatives_row : {n : _} → Tree → Row_of-Alternative n → Tree
  alternatives_row before end_of-Alternative = before
  alternatives_row before (more_of-Alternative name of others) = alternatives_row
      (After before (Pair (Leaf name) (type_tree of))) others

abbrev pub component_tree : Component → Tree
component_tree x = component_parts x.name (type_tree x.of) x.presence

abbrev pub alternative_tree : Alternative → Tree
alternative_tree x = Pair (Leaf x.name) (type_tree x.of)
