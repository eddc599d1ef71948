-- The parts of a value that are held in it say what the list of them says.
use Rattle.std.proofs.Common.{◌≡◌, List, refl, ◌∙◌, ap}
use Rattle.std.specs.declared.alloc.Global.{Global}
use Rattle.std.specs.declared.vec.Vec.{Vec}
use Rattle.token_grammar.specs.Form.{Tree, Bare, Pair, First, Second, Empty, After}
use Rattle.token_grammar.specs.Parts.{list_tree, vector_tree}
use Rattle.asn1_values_syntax.specs.declared.value.ValuePart.{ValuePart}
use Rattle.asn1_values_syntax.specs.declared.value.BracesText.{Row_of-ValuePart, end_of-ValuePart, more_of-ValuePart}
use Rattle.asn1_values_syntax.specs.declared.value.BracesText.{items-the_row-ValuePart}
use Rattle.asn1_values_syntax.specs.declared.value.BracesText.{items_hidden-the_row-ValuePart-0}
use Rattle.asn1_values_syntax.specs.declared.value.BracesText.TheBlock.{hidden-the_row-ValuePart-0}
use Rattle.asn1_values_syntax.specs.declared.value.BracesText.TheVariants.{Parts}
use Rattle.asn1_values_syntax.specs.ValueTrees.{content_tree, part_tree, row_tree}

row-list : {n : _} (before : Tree) (row : Row_of-ValuePart n) → row_tree before row ≡ list_tree part_tree before
    (items-the_row-ValuePart n row)
row-list before end_of-ValuePart = refl
row-list before (more_of-ValuePart part others) = row-list (After before (part_tree part)) others

pub parts_content : (parts : Vec ValuePart Global) → content_tree (Parts parts) ≡ Second
    (First (Pair (vector_tree part_tree parts) Bare))
parts_content parts = ap (λ (t : Tree). Second (First (Pair t Bare)))
    (row-list Empty (hidden-the_row-ValuePart-0 parts) ∙ ap (λ (xs : List ValuePart). list_tree part_tree Empty xs)
    (items_hidden-the_row-ValuePart-0 parts))
