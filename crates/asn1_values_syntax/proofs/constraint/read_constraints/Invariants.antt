use Rattle.asn1_values_syntax.specs.ConstraintTrees.{constraint_tree}
use Rattle.asn1_values_syntax.specs.Asn1.{asn1}
use Rattle.asn1_values_syntax.specs.TypeForms.{constraint, parenthesis}
use Rattle.std.proofs.Common.{length, ◌-◌}
use Rattle.token_grammar.specs.Form.{Empty, Many}
use Rattle.token_grammar.specs.Parts.{list_tree}
use Rattle.token_grammar.specs.Turns.{Leads}
use Rattle.asn1_values_syntax.proofs.constraint.read_constraints.Given as goal

-- the parts from the next one on are left to be read
abbrev pub invariant-turns : goal.invariant-turns
invariant-turns l = Leads l.tokens asn1 parenthesis (Many Empty constraint) l.at
    (Many (list_tree constraint_tree Empty l.list.items) constraint) l.next

abbrev pub decreases-turns : goal.decreases-turns
decreases-turns l = length l.tokens - l.next
