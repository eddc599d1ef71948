use Rattle.asn1_syntax.specs.TypeTrees.{alternative_tree, component_tree}
use Rattle.asn1_values_syntax.specs.Asn1.{asn1}
use Rattle.asn1_values_syntax.specs.TypeEnds.{is_alternatives_end, is_component_list_end}
use Rattle.asn1_values_syntax.specs.TypeForms.{alternative, component}
use Rattle.asn1_values_syntax.specs.ValueForms.{comma}
use Rattle.std.proofs.Common.{length, ◌*◌, ◌+◌, ◌-◌}
use Rattle.token_grammar.specs.Form.{Empty, Listed}
use Rattle.token_grammar.specs.Parts.{list_tree}
use Rattle.token_grammar.specs.Turns.{Leads}
use Rattle.asn1_syntax.proofs.type_text.+types.Given as goal

-- the tokens that are left, and for one place the order in which the functions call one another
abbrev pub decreases-read_type : goal.decreases-read_type
decreases-read_type l = 4 * (length l.tokens.now - l.at) + 1

abbrev pub decreases-read_boxed_type : goal.decreases-read_boxed_type
decreases-read_boxed_type l = 4 * (length l.tokens.now - l.at) + 2

abbrev pub decreases-read_tagged_type : goal.decreases-read_tagged_type
decreases-read_tagged_type l = 4 * (length l.tokens.now - l.at) + 0

abbrev pub decreases-read_structured_type : goal.decreases-read_structured_type
decreases-read_structured_type l = 4 * (length l.tokens.now - l.at) + 0

abbrev pub decreases-read_choice_type : goal.decreases-read_choice_type
decreases-read_choice_type l = 4 * (length l.tokens.now - l.at) + 0

abbrev pub decreases-read_structure : goal.decreases-read_structure
decreases-read_structure l = 4 * (length l.tokens.now - l.at) + 1

abbrev pub decreases-read_components : goal.decreases-read_components
decreases-read_components l = 4 * (length l.tokens.now - l.at) + 0

abbrev pub decreases-read_elements : goal.decreases-read_elements
decreases-read_elements l = 4 * (length l.tokens.now - l.at) + 0

abbrev pub decreases-read_optional_components : goal.decreases-read_optional_components
decreases-read_optional_components l = 4 * (length l.tokens.now - l.at) + 2

abbrev pub decreases-read_component_list : goal.decreases-read_component_list
decreases-read_component_list l = 4 * (length l.tokens.now - l.at) + 1

abbrev pub decreases-read_component : goal.decreases-read_component
decreases-read_component l = 4 * (length l.tokens.now - l.at) + 0

abbrev pub decreases-read_alternatives : goal.decreases-read_alternatives
decreases-read_alternatives l = 4 * (length l.tokens.now - l.at) + 1

abbrev pub decreases-read_alternative : goal.decreases-read_alternative
decreases-read_alternative l = 4 * (length l.tokens.now - l.at) + 0

-- the parts from the next one on are left to be read
abbrev pub invariant-read_component_list-turns : goal.invariant-read_component_list-turns
invariant-read_component_list-turns l = Leads l.tokens asn1 is_component_list_end (Listed comma Empty component) l.at
    (Listed comma (list_tree component_tree Empty l.list.items) component) l.next

abbrev pub decreases-read_component_list-turns : goal.decreases-read_component_list-turns
decreases-read_component_list-turns l = length l.tokens - l.next

-- the parts from the next one on are left to be read
abbrev pub invariant-read_alternatives-turns : goal.invariant-read_alternatives-turns
invariant-read_alternatives-turns l = Leads l.tokens asn1 is_alternatives_end (Listed comma Empty alternative) l.at
    (Listed comma (list_tree alternative_tree Empty l.list.items) alternative) l.next

abbrev pub decreases-read_alternatives-turns : goal.decreases-read_alternatives-turns
decreases-read_alternatives-turns l = length l.tokens - l.next
