-- ValueTrees: what values say, one field after the other (X.680, section 17.7; X.208, sections 17 to 28).
use Rattle.token_grammar.specs.Form.{Tree, Bare, Leaf, Pair, First, Second, Absent, Present, Empty, After, Numbered}
use Rattle.asn1_values_syntax.specs.declared.value.ValueText.{ValueText}
use Rattle.asn1_values_syntax.specs.declared.value.ValueText.TheVariants.{Literal, Number, Named as VNamed, Braces}
use Rattle.asn1_values_syntax.specs.declared.value.NamedValue.{NamedValue}
use Rattle.asn1_values_syntax.specs.declared.value.NamedValue.TheVariants.{Name, Choice'}
use Rattle.asn1_values_syntax.specs.declared.value.BracesText.{BracesText}
use Rattle.asn1_values_syntax.specs.declared.value.BracesText.TheVariants.{Nothing, Parts', Arcs, NamedArcs}
use Rattle.asn1_values_syntax.specs.declared.value.ValuePart.{ValuePart}
use Rattle.asn1_values_syntax.specs.declared.value.ValuePart.TheVariants.{Named as PNamed, Unnamed}
use Rattle.asn1_values_syntax.specs.declared.value.BracesText.{Row_of-ValuePart, end_of-ValuePart, more_of-ValuePart}
use Rattle.asn1_values_syntax.specs.NumberTrees.{signed_number_tree, arcs_end_tree}

-- No text says the number that stands before what says a value: a value has none of its own, and it is 0.
abbrev mutual
  pub value_tree : ValueText → Tree
  value_tree (Literal literal) = Numbered 0 (First (Leaf literal))
  value_tree (Number number) = Numbered 0 (Second (First (signed_number_tree number)))
  value_tree (VNamed value) = Numbered 0 (Second (Second (First (named_value_tree value))))
  value_tree (Braces brace content) = Numbered 0 (Second (Second (Second (Pair (Leaf brace) (content_tree content)))))

  pub named_value_tree : NamedValue → Tree
  named_value_tree (Name name) = Pair (Leaf name) Absent
  named_value_tree (Choice' name place value) = Pair (Leaf name) (Present (Pair Bare (value_tree value)))

  pub content_tree : BracesText → Tree
  content_tree Nothing = First Bare
  content_tree (Parts' shape row) = Second (First (Pair (row_tree Empty row) Bare))
  content_tree (Arcs arcs) = Second (Second (First (arcs_end_tree arcs.value)))
  content_tree (NamedArcs first others) = Second (Second (Second (Pair (Leaf first) (arcs_end_tree others.value))))

  pub part_tree : ValuePart → Tree
  part_tree (PNamed name value) = First (Pair (Leaf name) (value_tree value))
  part_tree (Unnamed value) = Second (value_tree value)

  pub row_tree : {n : _} → Tree → Row_of-ValuePart n → Tree
  row_tree before end_of-ValuePart = before
  row_tree before (more_of-ValuePart part others) = row_tree (After before (part_tree part)) others
