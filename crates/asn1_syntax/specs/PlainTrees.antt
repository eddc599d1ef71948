-- PlainTrees: what types that hold no others say (X.680, sections 14 to 41; X.208, section 27).
use Rattle.token_grammar.specs.declared.token.Token.{Token}
use Rattle.token_grammar.specs.Form.{Tree, Bare, Leaf, Pair, First, Second}
use Rattle.token_grammar.specs.Parts.{optional_tree}
use Rattle.asn1_values_syntax.specs.NamedNumberTrees.{named_bits_tree, named_integers_tree}
use Rattle.asn1_syntax.specs.declared.plain_type.IntegerType.{IntegerType}
use Rattle.asn1_syntax.specs.declared.plain_type.EnumeratedType.{EnumeratedType}
use Rattle.asn1_syntax.specs.declared.plain_type.BitStringType.{BitStringType}
use Rattle.asn1_syntax.specs.declared.plain_type.AnyType.{AnyType}
use Rattle.asn1_syntax.specs.declared.plain_type.TypeName.{TypeName}
use Rattle.asn1_syntax.specs.declared.plain_type.PlainType.{PlainType}
use Rattle.asn1_syntax.specs.declared.plain_type.PlainType.TheVariants.{Simple, Integer, Enumerated, BitString}
use Rattle.asn1_syntax.specs.declared.plain_type.PlainType.TheVariants.{OctetString, ObjectIdentifier, Any, Named}

abbrev pub integer_tree : IntegerType → Tree
integer_tree x = Pair (Leaf x.word) (optional_tree named_integers_tree x.numbers)

abbrev pub enumerated_tree : EnumeratedType → Tree
enumerated_tree x = Pair (Leaf x.word) (named_integers_tree x.items)

abbrev pub bit_string_tree : BitStringType → Tree
bit_string_tree x = Pair (Leaf x.word) (Pair Bare (optional_tree named_bits_tree x.bits))

-- a word with another one behind it
abbrev pub words_tree : Token → Tree
words_tree word = Pair (Leaf word) Bare

-- a name behind what isn't kept
abbrev pub behind_tree : Token → Tree
behind_tree name = Pair Bare (Leaf name)

abbrev pub any_type_tree : AnyType → Tree
any_type_tree x = Pair (Leaf x.word) (optional_tree behind_tree x.defined_by)

abbrev pub type_name_tree : TypeName → Tree
type_name_tree x = Pair (Leaf x.name) (optional_tree behind_tree x.member)

abbrev pub plain_type_tree : PlainType → Tree
plain_type_tree (Simple word) = First (Leaf word)
plain_type_tree (Integer x) = Second (First (integer_tree x))
plain_type_tree (Enumerated x) = Second (Second (First (enumerated_tree x)))
plain_type_tree (BitString x) = Second (Second (Second (First (bit_string_tree x))))
plain_type_tree (OctetString word) = Second (Second (Second (Second (First (words_tree word)))))
plain_type_tree (ObjectIdentifier word) = Second (Second (Second (Second (Second (First (words_tree word))))))
plain_type_tree (Any x) = Second (Second (Second (Second (Second (Second (First (any_type_tree x)))))))
plain_type_tree (Named x) = Second (Second (Second (Second (Second (Second (Second (type_name_tree x)))))))
