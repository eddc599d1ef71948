-- NumberTrees: what numbers, bounds and arcs say, one field after the other (X.680, sections 19 and 32).
use Rattle.token_grammar.specs.Form.{Tree, Bare, Leaf, Pair, First, Second}
use Rattle.token_grammar.specs.Parts.{optional_tree, vector_tree, arc_tree}
use Rattle.asn1_values_syntax.specs.declared.numbers.SignedNumber.{SignedNumber}
use Rattle.asn1_values_syntax.specs.declared.numbers.Bound.{Bound}
use Rattle.asn1_values_syntax.specs.declared.numbers.Bound.TheVariants.{Number, Name}
use Rattle.asn1_values_syntax.specs.declared.arcs.NamedArc.{NamedArc}
use Rattle.asn1_values_syntax.specs.declared.arcs.SureArcs.{SureArcs}
use Rattle.asn1_values_syntax.specs.declared.arcs.SureArcs.TheVariants.{Number as ANumber, Named as ANamed}

abbrev pub signed_number_tree : SignedNumber → Tree
signed_number_tree x = Pair (optional_tree Leaf x.minus) (Leaf x.number)

abbrev pub bound_tree : Bound → Tree
bound_tree (Number number) = First (signed_number_tree number)
bound_tree (Name name) = Second (Leaf name)

abbrev pub named_arc_tree : NamedArc → Tree
named_arc_tree x = Pair (Leaf x.name) (Pair Bare (Pair (Leaf x.number) Bare))

abbrev pub sure_arcs_tree : SureArcs → Tree
sure_arcs_tree (ANumber first second others) = First (Pair (Leaf first)
    (Pair (arc_tree second) (vector_tree arc_tree others)))
sure_arcs_tree (ANamed first others) = Second (Pair (named_arc_tree first) (vector_tree arc_tree others))

abbrev pub arcs_end_tree : SureArcs → Tree
arcs_end_tree x = Pair (sure_arcs_tree x) Bare
