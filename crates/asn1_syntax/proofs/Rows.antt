-- The components and the alternatives that are held in a type say what the lists of them say.
use Rattle.std.proofs.Common.{◌≡◌, List, Option, None, Some, refl, ◌∙◌, ap}
use Rattle.std.specs.declared.alloc.Global.{Global}
use Rattle.std.specs.declared.vec.Vec.{Vec}
use Rattle.token_grammar.specs.declared.token.Token.{Token}
use Rattle.token_grammar.specs.Form.{Tree, Bare, Leaf, Pair, First, Second, Present, Empty, After, Numbered}
use Rattle.token_grammar.specs.Parts.{list_tree, optional_tree, vector_tree}
use Rattle.asn1_values_syntax.specs.declared.constraint.Constraint.{Constraint}
use Rattle.asn1_syntax.specs.declared.type_text.TypeText.{Row_of-Alternative, end_of-Alternative, more_of-Alternative}
use Rattle.asn1_syntax.specs.declared.type_text.TypeText.{items-the_row-Alternative, items_hidden-the_row-Alternative-1}
use Rattle.asn1_syntax.specs.declared.type_text.TypeText.TheVariants.{Choice}
use Rattle.asn1_syntax.specs.declared.type_text.StructureText.{Row_of-Component, end_of-Component, more_of-Component}
use Rattle.asn1_syntax.specs.declared.type_text.StructureText.{items-the_row-Component}
use Rattle.asn1_syntax.specs.declared.type_text.StructureText.{items_hidden-the_row-Component-0}
use Rattle.asn1_syntax.specs.declared.type_text.StructureText.{back-StructureText-Components-0}
use Rattle.asn1_syntax.specs.declared.type_text.StructureText.TheBlock.{hidden-the_row-Component-0}
use Rattle.asn1_syntax.specs.declared.type_text.StructureText.TheBlock.{hidden-the_row-Alternative-1}
use Rattle.asn1_syntax.specs.declared.type_text.StructureText.TheVariants.{Components}
use Rattle.asn1_syntax.specs.declared.type_text.Component.{Component}
use Rattle.asn1_syntax.specs.declared.type_text.Alternative.{Alternative}
use Rattle.asn1_syntax.specs.TypeTrees.{alternative_tree, alternatives_row, component_parts, component_tree}
use Rattle.asn1_syntax.specs.TypeTrees.{components_held, components_row, constraints_tree, structure_tree, type_tree}

components-list : {n : _} (before : Tree) (row : Row_of-Component n) → components_row before row ≡ list_tree
    component_tree before (items-the_row-Component n row)
components-list before end_of-Component = refl
components-list before (more_of-Component name of presence others) = components-list
    (After before (component_parts name (type_tree of) presence)) others

alternatives-list : {n : _} (before : Tree) (row : Row_of-Alternative n) → alternatives_row before row ≡ list_tree
    alternative_tree before (items-the_row-Alternative n row)
alternatives-list before end_of-Alternative = refl
alternatives-list before (more_of-Alternative name of others) = alternatives-list
    (After before (Pair (Leaf name) (type_tree of))) others

held : (x : Option (Vec Component Global)) → components_held (back-StructureText-Components-0 x) ≡ optional_tree
    (vector_tree component_tree) x
held None = refl
held (Some xs) = ap Present (components-list Empty (hidden-the_row-Component-0 xs) ∙ ap
    (λ (ys : List Component). list_tree component_tree Empty ys) (items_hidden-the_row-Component-0 xs))

pub components_said : (components : Option (Vec Component Global)) (constraints : Vec Constraint Global) →
    structure_tree (Components components constraints) ≡ First (Pair Bare
    (Pair (optional_tree (vector_tree component_tree) components) (Pair Bare (constraints_tree constraints))))
components_said components constraints = ap (λ (t : Tree). First (Pair Bare
    (Pair t (Pair Bare (constraints_tree constraints))))) (held components)

pub choice_said : (word : Token) (alternatives : Vec Alternative Global) (constraints : Vec Constraint Global) →
    type_tree (Choice word alternatives constraints) ≡ Numbered 0 (Second
    (Second (First (Pair (Leaf word) (Pair Bare (Pair (vector_tree alternative_tree alternatives)
    (Pair Bare (constraints_tree constraints))))))))
choice_said word alternatives constraints = ap (λ (t : Tree). Numbered 0
    (Second (Second (First (Pair (Leaf word) (Pair Bare (Pair t (Pair Bare (constraints_tree constraints)))))))))
    (alternatives-list Empty (hidden-the_row-Alternative-1 alternatives) ∙ ap
    (λ (ys : List Alternative). list_tree alternative_tree Empty ys)
    (items_hidden-the_row-Alternative-1 alternatives))
