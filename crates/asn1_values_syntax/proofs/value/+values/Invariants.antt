use Rattle.asn1_values_syntax.specs.Asn1.{asn1}
use Rattle.asn1_values_syntax.specs.ValueForms.{comma, is_parts_end, part}
use Rattle.asn1_values_syntax.specs.ValueTrees.{part_tree}
use Rattle.std.proofs.Common.{length, ◌*◌, ◌+◌, ◌-◌}
use Rattle.token_grammar.specs.Form.{Empty, Listed}
use Rattle.token_grammar.specs.Parts.{list_tree}
use Rattle.token_grammar.specs.Turns.{Leads}
use Rattle.asn1_values_syntax.proofs.value.+values.Given as goal

-- the tokens that are left, and for one place the order in which the functions call one another
abbrev pub decreases-read_value : goal.decreases-read_value
decreases-read_value l = 8 * (length l.tokens.now - l.at) + 1

abbrev pub decreases-read_named_value : goal.decreases-read_named_value
decreases-read_named_value l = 8 * (length l.tokens.now - l.at) + 0

abbrev pub decreases-read_chosen_value : goal.decreases-read_chosen_value
decreases-read_chosen_value l = 8 * (length l.tokens.now - l.at) + 0

abbrev pub decreases-read_content : goal.decreases-read_content
decreases-read_content l = 8 * (length l.tokens.now - l.at) + 5

abbrev pub decreases-read_parts_end : goal.decreases-read_parts_end
decreases-read_parts_end l = 8 * (length l.tokens.now - l.at) + 4

abbrev pub decreases-read_parts : goal.decreases-read_parts
decreases-read_parts l = 8 * (length l.tokens.now - l.at) + 3

abbrev pub decreases-read_part : goal.decreases-read_part
decreases-read_part l = 8 * (length l.tokens.now - l.at) + 2

-- the parts from the next one on are left to be read
abbrev pub invariant-read_parts-turns : goal.invariant-read_parts-turns
invariant-read_parts-turns l = Leads l.tokens asn1 is_parts_end (Listed comma Empty part) l.at
    (Listed comma (list_tree part_tree Empty l.list.items) part) l.next

abbrev pub decreases-read_parts-turns : goal.decreases-read_parts-turns
decreases-read_parts-turns l = length l.tokens - l.next
