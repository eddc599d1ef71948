-- Trees whose contents are octets: X.690, section 8.1.4.
use Rattle.term_values.specs.SpellingLaws.{AreOctets}
use Rattle.term_values.specs.Tree.{TreeValue, TreeValues}
use Rattle.term_values.specs.Tree.TreeValue.{Primitive, Constructed}
use Rattle.term_values.specs.Tree.TreeValues.{Nothing, Then}

abbrev mutual
  pub HasOctets : TreeValue → Type 0
  HasOctets (Primitive tag contents) = AreOctets contents
  HasOctets (Constructed tag inside) = HaveOctets inside

  pub HaveOctets : TreeValues → Type 0
  HaveOctets Nothing = Unit {0}
  HaveOctets (Then x xs) = HasOctets x × HaveOctets xs
