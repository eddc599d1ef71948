use Rattle.std.proofs.Common.{◌-◌, length}
use Rattle.token_grammar.specs.Form.{Empty, Many}
use Rattle.token_grammar.specs.Parts.{list_tree}
use Rattle.token_grammar.specs.Turns.{Leads}
use Rattle.asn1_values_syntax.specs.Asn1.{asn1}
use Rattle.extra_syntax.specs.SectionEnds.{is_on}
use Rattle.extra_syntax.specs.SectionForms.{rule}
use Rattle.extra_syntax.specs.SectionTrees.{rule_tree}
use Rattle.extra_syntax.proofs.rules.read_rules.Given as goal

-- the parts from the next one on are left to be read
abbrev pub invariant-turns : goal.invariant-turns
invariant-turns l = Leads l.tokens asn1 is_on (Many Empty rule) l.at
    (Many (list_tree rule_tree Empty l.list.items) rule) l.next

abbrev pub decreases-turns : goal.decreases-turns
decreases-turns l = length l.tokens - l.next
