use Rattle.std.proofs.Common.{◌-◌, length}
use Rattle.token_grammar.specs.Form.{Empty, Listed}
use Rattle.token_grammar.specs.Parts.{list_tree}
use Rattle.token_grammar.specs.Turns.{Leads}
use Rattle.asn1_values_syntax.specs.Asn1.{asn1}
use Rattle.asn1_values_syntax.specs.ValueForms.{comma}
use Rattle.extra_syntax.specs.SectionForms.{step}
use Rattle.extra_syntax.specs.SectionTrees.{step_tree}
use Rattle.extra_syntax.specs.SectionEnds.{is_steps_end}
use Rattle.extra_syntax.proofs.rule.read_steps.Given as goal

-- the parts from the next one on are left to be read
abbrev pub invariant-turns : goal.invariant-turns
invariant-turns l = Leads l.tokens asn1 is_steps_end (Listed comma Empty step) l.at
    (Listed comma (list_tree step_tree Empty l.list.items) step) l.next

abbrev pub decreases-turns : goal.decreases-turns
decreases-turns l = length l.tokens - l.next
