-- ConstraintTrees: what constraints say (X.680, sections 49 to 51; X.208, section 37).
use Rattle.std.specs.declared.alloc.Global.{Global}
use Rattle.std.specs.declared.vec.Vec.{Vec}
use Rattle.token_grammar.specs.Form.{Tree, Bare, Pair, First, Second}
use Rattle.token_grammar.specs.Parts.{optional_tree, vector_tree}
use Rattle.asn1_values_syntax.specs.declared.numbers.Bound.{Bound}
use Rattle.asn1_values_syntax.specs.NumberTrees.{bound_tree}
use Rattle.asn1_values_syntax.specs.declared.constraint.Range.{Range}
use Rattle.asn1_values_syntax.specs.declared.constraint.Constraint.{Constraint}
use Rattle.asn1_values_syntax.specs.declared.constraint.Constraint.TheVariants.{Size, Values}

abbrev pub upper_tree : Bound → Tree
upper_tree x = Pair Bare (bound_tree x)

abbrev pub range_tree : Range → Tree
range_tree x = Pair (bound_tree x.lower) (optional_tree upper_tree x.upper)

abbrev pub size_tree : Vec Range Global → Tree
size_tree xs = Pair Bare (Pair Bare (Pair (vector_tree range_tree xs) Bare))

abbrev pub constraint_content_tree : Constraint → Tree
constraint_content_tree (Size xs) = First (size_tree xs)
constraint_content_tree (Values xs) = Second (vector_tree range_tree xs)

abbrev pub constraint_tree : Constraint → Tree
constraint_tree x = Pair Bare (Pair (constraint_content_tree x) Bare)

abbrev pub list_size_tree : Vec Range Global → Tree
list_size_tree xs = Pair Bare (Pair (size_tree xs) Bare)
