use Rattle.asn1_values_syntax.specs.NamedNumberTrees.{named_integer_tree}
use Rattle.asn1_values_syntax.specs.Asn1.{asn1}
use Rattle.asn1_values_syntax.specs.TypeForms.{named_integer}
use Rattle.asn1_values_syntax.specs.ValueForms.{comma}
use Rattle.std.proofs.Common.{length, ◌-◌}
use Rattle.token_grammar.specs.Form.{Empty, Listed}
use Rattle.token_grammar.specs.Parts.{list_tree}
use Rattle.token_grammar.specs.Turns.{Leads}
use Rattle.asn1_values_syntax.proofs.named_number.read_integer_list.Given as goal

-- the parts from the next one on are left to be read
abbrev pub invariant-turns : goal.invariant-turns
invariant-turns l = Leads l.tokens asn1 comma (Listed comma Empty named_integer) l.at
    (Listed comma (list_tree named_integer_tree Empty l.list.items) named_integer) l.next

abbrev pub decreases-turns : goal.decreases-turns
decreases-turns l = length l.tokens - l.next
