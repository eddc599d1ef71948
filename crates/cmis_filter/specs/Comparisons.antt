-- How an item compares an asserted value with the held one: X.711, section 7.5, type FilterItem.
use Rattle.std.specs.Prelude.{Bool}
use Rattle.term_values.specs.MatchingKinds.{MatchingRule}
use Rattle.term_values.specs.MatchingKinds.MatchingRule.{Equality, Ordering, Substrings, Comparison, Intersection}
use Rattle.term_values.specs.Typed.{TypedValue}
use Rattle.term_model.specs.MatchTests.{do_match}
use Rattle.cmis_filter.specs.declared.comparing.Comparison.{Comparison as Compared}
use Rattle.cmis_filter.specs.declared.comparing.Comparison.TheVariants as compared

-- the rule that the comparison asks for
abbrev pub rule_of : Compared → MatchingRule
rule_of compared.Equal = Equality
rule_of compared.HasPieces = Substrings
rule_of compared.AtLeast = Ordering
rule_of compared.AtMost = Ordering
rule_of compared.Within = Comparison
rule_of compared.Around = Comparison
rule_of compared.Meeting = Intersection

-- the asserted value and the held one compare so: AtLeast, the held one is at most the asserted one; Around, the held
-- one is within the asserted one
abbrev pub do_compare : Compared → TypedValue → TypedValue → Bool
do_compare compared.Equal asserted held = do_match Equality asserted held
do_compare compared.HasPieces asserted held = do_match Substrings asserted held
do_compare compared.AtLeast asserted held = do_match Ordering held asserted
do_compare compared.AtMost asserted held = do_match Ordering asserted held
do_compare compared.Within asserted held = do_match Comparison asserted held
do_compare compared.Around asserted held = do_match Comparison held asserted
do_compare compared.Meeting asserted held = do_match Intersection asserted held
