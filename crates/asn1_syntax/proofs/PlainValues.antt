-- No two types that hold no others have one tree, nor have two of their parts.
use Rattle.token_grammar.specs.Form.{Leaf}
use Rattle.token_grammar.specs.Parts.{vector_tree}
use Rattle.token_grammar.specs.PartLaws.{OneValue, OneValueBy}
use Rattle.token_grammar.proofs.Values.{first_not_second, first_same, leaf_same, one_list, one_option, one_token}
use Rattle.token_grammar.proofs.Values.{options_agree, pair_same, second_not_first, second_same}
use Rattle.asn1_values_syntax.proofs.OneValue.{one_bound}
use Rattle.asn1_values_syntax.specs.declared.constraint.Constraint.TheVariants.{Size, Values}
use Rattle.asn1_syntax.specs.declared.plain_type.PlainType.TheVariants.{Simple, Integer, Enumerated, BitString}
use Rattle.asn1_syntax.specs.declared.plain_type.PlainType.TheVariants.{OctetString, ObjectIdentifier, Any, Named}
use Rattle.asn1_values_syntax.specs.ConstraintTrees.{constraint_tree, list_size_tree, range_tree, size_tree, upper_tree}
use Rattle.asn1_values_syntax.specs.NamedNumberTrees.{named_bit_tree, named_bits_tree, named_integer_tree}
use Rattle.asn1_values_syntax.specs.NamedNumberTrees.{named_integers_tree, tag_tree}
use Rattle.asn1_syntax.specs.PlainTrees.{any_type_tree, behind_tree, bit_string_tree, enumerated_tree, integer_tree}
use Rattle.asn1_syntax.specs.PlainTrees.{plain_type_tree, type_name_tree, words_tree}
use Rattle.asn1_syntax.specs.TypeAgreement.{BitStringsAgree, ConstraintsAgree, EnumeratedAgree, IntegersAgree}
use Rattle.asn1_syntax.specs.TypeAgreement.{PlainTypesAgree, VectorsEqual, two_any, two_bit_strings, two_enumerated}
use Rattle.asn1_syntax.specs.TypeAgreement.{two_identifiers, two_integers, two_names, two_octet_strings, two_simple}

-- constraints
one_upper : OneValue upper_tree
one_upper x y e = one_bound x y (pair_same e).1

pub one_range : OneValue range_tree
one_range x y e =
    let parts = pair_same e in
    let lower = one_bound x.lower y.lower parts.0 in
    let upper = one_option upper_tree one_upper x.upper y.upper parts.1 in
    λ i. record { lower = lower i; upper = upper i }

ranges_agree : OneValueBy VectorsEqual (vector_tree range_tree)
ranges_agree x y e = one_list range_tree one_range x.items y.items e

sizes_agree : OneValueBy VectorsEqual size_tree
sizes_agree x y e = ranges_agree x y (pair_same (pair_same (pair_same e).1).1).0

pub constraints_agree : OneValueBy ConstraintsAgree constraint_tree
constraints_agree (Size x) (Size y) e = sizes_agree x y (first_same (pair_same (pair_same e).1).0)
constraints_agree (Size x) (Values y) e = absurd (first_not_second (pair_same (pair_same e).1).0)
constraints_agree (Values x) (Size y) e = absurd (second_not_first (pair_same (pair_same e).1).0)
constraints_agree (Values x) (Values y) e = ranges_agree x y (second_same (pair_same (pair_same e).1).0)

pub list_sizes_agree : OneValueBy VectorsEqual list_size_tree
list_sizes_agree x y e = sizes_agree x y (pair_same (pair_same e).1).0

-- named numbers and bits
pub one_named_integer : OneValue named_integer_tree
one_named_integer x y e =
    let parts = pair_same e in
    let name = leaf_same parts.0 in
    let number = one_bound x.number y.number (pair_same (pair_same parts.1).1).0 in
    λ i. record { name = name i; number = number i }

named_integers_agree : OneValueBy VectorsEqual named_integers_tree
named_integers_agree x y e = one_list named_integer_tree one_named_integer x.items y.items (pair_same (pair_same e).1).0

pub one_named_bit : OneValue named_bit_tree
one_named_bit x y e =
    let parts = pair_same e in
    let name = leaf_same parts.0 in
    let number = leaf_same (pair_same (pair_same parts.1).1).0 in
    λ i. record { name = name i; number = number i }

named_bits_agree : OneValueBy VectorsEqual named_bits_tree
named_bits_agree x y e = one_list named_bit_tree one_named_bit x.items y.items (pair_same (pair_same e).1).0

-- tags
pub one_tag : OneValue tag_tree
one_tag x y e =
    let parts = pair_same e in
    let rest = pair_same parts.1 in
    let bracket = leaf_same parts.0 in
    let class = one_option Leaf one_token x.class y.class rest.0 in
    let number = leaf_same (pair_same rest.1).0 in
    λ i. record { bracket = bracket i; class = class i; number = number i }

-- types
integers_agree : OneValueBy IntegersAgree integer_tree
integers_agree x y e =
    let parts = pair_same e in
    (leaf_same parts.0, options_agree VectorsEqual named_integers_tree named_integers_agree x.numbers y.numbers parts.1)

enumerated_agree : OneValueBy EnumeratedAgree enumerated_tree
enumerated_agree x y e =
    let parts = pair_same e in
    (leaf_same parts.0, named_integers_agree x.items y.items parts.1)

bit_strings_agree : OneValueBy BitStringsAgree bit_string_tree
bit_strings_agree x y e =
    let parts = pair_same e in
    (leaf_same parts.0, options_agree VectorsEqual named_bits_tree named_bits_agree x.bits y.bits (pair_same parts.1).1)

one_words : OneValue words_tree
one_words x y e = leaf_same (pair_same e).0

one_behind : OneValue behind_tree
one_behind x y e = leaf_same (pair_same e).1

one_any : OneValue any_type_tree
one_any x y e =
    let parts = pair_same e in
    let word = leaf_same parts.0 in
    let defined_by = one_option behind_tree one_behind x.defined_by y.defined_by parts.1 in
    λ i. record { word = word i; defined_by = defined_by i }

one_type_name : OneValue type_name_tree
one_type_name x y e =
    let parts = pair_same e in
    let name = leaf_same parts.0 in
    let member = one_option behind_tree one_behind x.member y.member parts.1 in
    λ i. record { name = name i; member = member i }

pub plain_types_agree : OneValueBy PlainTypesAgree plain_type_tree
plain_types_agree (Simple x) (Simple y) e = two_simple (leaf_same (first_same e))
plain_types_agree (Simple x) (Integer y) e = absurd (first_not_second e)
plain_types_agree (Simple x) (Enumerated y) e = absurd (first_not_second e)
plain_types_agree (Simple x) (BitString y) e = absurd (first_not_second e)
plain_types_agree (Simple x) (OctetString y) e = absurd (first_not_second e)
plain_types_agree (Simple x) (ObjectIdentifier y) e = absurd (first_not_second e)
plain_types_agree (Simple x) (Any y) e = absurd (first_not_second e)
plain_types_agree (Simple x) (Named y) e = absurd (first_not_second e)
plain_types_agree (Integer x) (Simple y) e = absurd (second_not_first e)
plain_types_agree (Integer x) (Integer y) e = two_integers (integers_agree x y (first_same (second_same e)))
plain_types_agree (Integer x) (Enumerated y) e = absurd (first_not_second (second_same e))
plain_types_agree (Integer x) (BitString y) e = absurd (first_not_second (second_same e))
plain_types_agree (Integer x) (OctetString y) e = absurd (first_not_second (second_same e))
plain_types_agree (Integer x) (ObjectIdentifier y) e = absurd (first_not_second (second_same e))
plain_types_agree (Integer x) (Any y) e = absurd (first_not_second (second_same e))
plain_types_agree (Integer x) (Named y) e = absurd (first_not_second (second_same e))
plain_types_agree (Enumerated x) (Simple y) e = absurd (second_not_first e)
plain_types_agree (Enumerated x) (Integer y) e = absurd (second_not_first (second_same e))
plain_types_agree (Enumerated x) (Enumerated y) e = two_enumerated (enumerated_agree x y (first_same (second_same
    (second_same e))))
plain_types_agree (Enumerated x) (BitString y) e = absurd (first_not_second (second_same (second_same e)))
plain_types_agree (Enumerated x) (OctetString y) e = absurd (first_not_second (second_same (second_same e)))
plain_types_agree (Enumerated x) (ObjectIdentifier y) e = absurd (first_not_second (second_same (second_same e)))
plain_types_agree (Enumerated x) (Any y) e = absurd (first_not_second (second_same (second_same e)))
plain_types_agree (Enumerated x) (Named y) e = absurd (first_not_second (second_same (second_same e)))
plain_types_agree (BitString x) (Simple y) e = absurd (second_not_first e)
plain_types_agree (BitString x) (Integer y) e = absurd (second_not_first (second_same e))
plain_types_agree (BitString x) (Enumerated y) e = absurd (second_not_first (second_same (second_same e)))
plain_types_agree (BitString x) (BitString y) e = two_bit_strings (bit_strings_agree x y (first_same (second_same
    (second_same (second_same e)))))
plain_types_agree (BitString x) (OctetString y) e = absurd (first_not_second (second_same (second_same (second_same
    e))))
plain_types_agree (BitString x) (ObjectIdentifier y) e = absurd (first_not_second (second_same (second_same
    (second_same e))))
plain_types_agree (BitString x) (Any y) e = absurd (first_not_second (second_same (second_same (second_same e))))
plain_types_agree (BitString x) (Named y) e = absurd (first_not_second (second_same (second_same (second_same e))))
plain_types_agree (OctetString x) (Simple y) e = absurd (second_not_first e)
plain_types_agree (OctetString x) (Integer y) e = absurd (second_not_first (second_same e))
plain_types_agree (OctetString x) (Enumerated y) e = absurd (second_not_first (second_same (second_same e)))
plain_types_agree (OctetString x) (BitString y) e = absurd (second_not_first (second_same (second_same (second_same
    e))))
plain_types_agree (OctetString x) (OctetString y) e = two_octet_strings (one_words x y (first_same (second_same
    (second_same (second_same (second_same e))))))
plain_types_agree (OctetString x) (ObjectIdentifier y) e = absurd (first_not_second (second_same (second_same
    (second_same (second_same e)))))
plain_types_agree (OctetString x) (Any y) e = absurd (first_not_second (second_same (second_same (second_same
    (second_same e)))))
plain_types_agree (OctetString x) (Named y) e = absurd (first_not_second (second_same (second_same (second_same
    (second_same e)))))
plain_types_agree (ObjectIdentifier x) (Simple y) e = absurd (second_not_first e)
plain_types_agree (ObjectIdentifier x) (Integer y) e = absurd (second_not_first (second_same e))
plain_types_agree (ObjectIdentifier x) (Enumerated y) e = absurd (second_not_first (second_same (second_same e)))
plain_types_agree (ObjectIdentifier x) (BitString y) e = absurd (second_not_first (second_same (second_same
    (second_same e))))
plain_types_agree (ObjectIdentifier x) (OctetString y) e = absurd (second_not_first (second_same (second_same
    (second_same (second_same e)))))
plain_types_agree (ObjectIdentifier x) (ObjectIdentifier y) e = two_identifiers (one_words x y (first_same
    (second_same (second_same (second_same (second_same (second_same e)))))))
plain_types_agree (ObjectIdentifier x) (Any y) e = absurd (first_not_second (second_same (second_same (second_same
    (second_same (second_same e))))))
plain_types_agree (ObjectIdentifier x) (Named y) e = absurd (first_not_second (second_same (second_same (second_same
    (second_same (second_same e))))))
plain_types_agree (Any x) (Simple y) e = absurd (second_not_first e)
plain_types_agree (Any x) (Integer y) e = absurd (second_not_first (second_same e))
plain_types_agree (Any x) (Enumerated y) e = absurd (second_not_first (second_same (second_same e)))
plain_types_agree (Any x) (BitString y) e = absurd (second_not_first (second_same (second_same (second_same e))))
plain_types_agree (Any x) (OctetString y) e = absurd (second_not_first (second_same (second_same (second_same
    (second_same e)))))
plain_types_agree (Any x) (ObjectIdentifier y) e = absurd (second_not_first (second_same (second_same (second_same
    (second_same (second_same e))))))
plain_types_agree (Any x) (Any y) e = two_any (one_any x y (first_same (second_same (second_same (second_same
    (second_same (second_same (second_same e))))))))
plain_types_agree (Any x) (Named y) e = absurd (first_not_second (second_same (second_same (second_same (second_same
    (second_same (second_same e)))))))
plain_types_agree (Named x) (Simple y) e = absurd (second_not_first e)
plain_types_agree (Named x) (Integer y) e = absurd (second_not_first (second_same e))
plain_types_agree (Named x) (Enumerated y) e = absurd (second_not_first (second_same (second_same e)))
plain_types_agree (Named x) (BitString y) e = absurd (second_not_first (second_same (second_same (second_same e))))
plain_types_agree (Named x) (OctetString y) e = absurd (second_not_first (second_same (second_same (second_same
    (second_same e)))))
plain_types_agree (Named x) (ObjectIdentifier y) e = absurd (second_not_first (second_same (second_same (second_same
    (second_same (second_same e))))))
plain_types_agree (Named x) (Any y) e = absurd (second_not_first (second_same (second_same (second_same (second_same
    (second_same (second_same e)))))))
plain_types_agree (Named x) (Named y) e = two_names (one_type_name x y (second_same (second_same (second_same
    (second_same (second_same (second_same (second_same e))))))))
