use Rattle.asn1_values_syntax.specs.ConstraintTrees.{range_tree}
use Rattle.asn1_values_syntax.specs.Asn1.{asn1}
use Rattle.asn1_values_syntax.specs.TypeEnds.{is_ranges_end}
use Rattle.asn1_values_syntax.specs.TypeForms.{bar, range, ranges}
use Rattle.std.proofs.Common.{length, ◌-◌}
use Rattle.token_grammar.specs.Form.{Empty, Listed}
use Rattle.token_grammar.specs.Parts.{list_tree}
use Rattle.token_grammar.specs.Turns.{Leads}
use Rattle.asn1_values_syntax.proofs.constraint.read_ranges.Given as goal

-- the parts from the next one on are left to be read
abbrev pub invariant-turns : goal.invariant-turns
invariant-turns l = Leads l.tokens asn1 is_ranges_end ranges l.at
    (Listed bar (list_tree range_tree Empty l.list.items) range) l.next

abbrev pub decreases-turns : goal.decreases-turns
decreases-turns l = length l.tokens - l.next
