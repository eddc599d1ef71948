use Rattle.std.proofs.Common.{◌-◌, length}
use Rattle.token_grammar.specs.Form.{Empty, Keep, Leaf, Listed}
use Rattle.token_grammar.specs.Parts.{list_tree}
use Rattle.token_grammar.specs.Turns.{Leads}
use Rattle.asn1_values_syntax.specs.Asn1.{asn1}
use Rattle.asn1_values_syntax.specs.ValueForms.{comma}
use Rattle.token_grammar.specs.TokenTests.{is_label}
use Rattle.extra_syntax.proofs.instance.read_labels.Given as goal

-- the parts from the next one on are left to be read
abbrev pub invariant-turns : goal.invariant-turns
invariant-turns l = Leads l.tokens asn1 comma (Listed comma Empty (Keep is_label)) l.at
    (Listed comma (list_tree Leaf Empty l.list.items) (Keep is_label)) l.next

abbrev pub decreases-turns : goal.decreases-turns
decreases-turns l = length l.tokens - l.next
