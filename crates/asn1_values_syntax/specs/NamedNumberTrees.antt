-- NamedNumberTrees: what named numbers, named bits and tags say (X.680, sections 19.1, 20.1, 22.1 and 31.2).
use Rattle.std.specs.declared.alloc.Global.{Global}
use Rattle.std.specs.declared.vec.Vec.{Vec}
use Rattle.token_grammar.specs.Form.{Tree, Bare, Leaf, Pair}
use Rattle.token_grammar.specs.Parts.{optional_tree, vector_tree}
use Rattle.asn1_values_syntax.specs.declared.named_number.NamedInteger.{NamedInteger}
use Rattle.asn1_values_syntax.specs.declared.named_number.NamedBit.{NamedBit}
use Rattle.asn1_values_syntax.specs.declared.tag.Tag.{Tag}
use Rattle.asn1_values_syntax.specs.NumberTrees.{bound_tree}

abbrev pub named_integer_tree : NamedInteger → Tree
named_integer_tree x = Pair (Leaf x.name) (Pair Bare (Pair (bound_tree x.number) Bare))

abbrev pub named_integers_tree : Vec NamedInteger Global → Tree
named_integers_tree xs = Pair Bare (Pair (vector_tree named_integer_tree xs) Bare)

abbrev pub named_bit_tree : NamedBit → Tree
named_bit_tree x = Pair (Leaf x.name) (Pair Bare (Pair (Leaf x.number) Bare))

abbrev pub named_bits_tree : Vec NamedBit Global → Tree
named_bits_tree xs = Pair Bare (Pair (vector_tree named_bit_tree xs) Bare)

abbrev pub tag_tree : Tag → Tree
tag_tree x = Pair (Leaf x.bracket) (Pair (optional_tree Leaf x.class) (Pair (Leaf x.number) Bare))
