use Rattle.std.proofs.Common.{◌+◌, ◌-◌, ◌*◌, length, codes}
use Rattle.token_grammar.specs.Form.{AnyOrder, Listed, Empty}
use Rattle.token_grammar.specs.Parts.{either, list_tree}
use Rattle.token_grammar.specs.TokenTests.{is_word_of}
use Rattle.token_grammar.specs.Turns.{Leads}
use Rattle.gdmo_members.specs.Clauses.{parameters, comma, reference}
use Rattle.gdmo_members.specs.Templates.{templates, attribute_clauses, parameter_clauses}
use Rattle.gdmo_members.specs.MemberTrees.{attribute_slots, parameter_slots, parameter_reference_tree}
use Rattle.gdmo_members.specs.MemberTrees.{is_attribute_clause, is_parameter_clause}
use Rattle.gdmo_members.proofs.+templates.Given as goal

-- the tokens that are left, and for one place the order in which the functions call one another
abbrev pub decreases-attribute::read_attribute_in_line : goal.decreases-attribute::read_attribute_in_line
decreases-attribute::read_attribute_in_line l = 4 * (length l.tokens.now - l.at) + 1

abbrev pub decreases-attribute::read_attribute_reference : goal.decreases-attribute::read_attribute_reference
decreases-attribute::read_attribute_reference l = 4 * (length l.tokens.now - l.at) + 2

abbrev pub decreases-attribute::read_attribute_clauses : goal.decreases-attribute::read_attribute_clauses
decreases-attribute::read_attribute_clauses l = 4 * (length l.tokens.now - l.at) + 3

abbrev pub decreases-attribute::read_attribute_clause : goal.decreases-attribute::read_attribute_clause
decreases-attribute::read_attribute_clause l = 4 * (length l.tokens.now - l.at) + 2

abbrev pub decreases-attribute::read_attribute_syntax : goal.decreases-attribute::read_attribute_syntax
decreases-attribute::read_attribute_syntax l = 4 * (length l.tokens.now - l.at) + 1

abbrev pub decreases-parameter::read_parameter_in_line : goal.decreases-parameter::read_parameter_in_line
decreases-parameter::read_parameter_in_line l = 4 * (length l.tokens.now - l.at) + 1

abbrev pub decreases-parameter::read_parameter_reference : goal.decreases-parameter::read_parameter_reference
decreases-parameter::read_parameter_reference l = 4 * (length l.tokens.now - l.at) + 2

abbrev pub decreases-parameter::read_parameter_list : goal.decreases-parameter::read_parameter_list
decreases-parameter::read_parameter_list l = 4 * (length l.tokens.now - l.at) + 3

abbrev pub decreases-parameter::read_parameters_clause : goal.decreases-parameter::read_parameters_clause
decreases-parameter::read_parameters_clause l = 4 * (length l.tokens.now - l.at) + 1

abbrev pub decreases-parameter::read_parameter_clauses : goal.decreases-parameter::read_parameter_clauses
decreases-parameter::read_parameter_clauses l = 4 * (length l.tokens.now - l.at) + 3

abbrev pub decreases-parameter::read_parameter_clause : goal.decreases-parameter::read_parameter_clause
decreases-parameter::read_parameter_clause l = 4 * (length l.tokens.now - l.at) + 2

abbrev pub decreases-parameter::read_parameter_syntax : goal.decreases-parameter::read_parameter_syntax
decreases-parameter::read_parameter_syntax l = 4 * (length l.tokens.now - l.at) + 1

-- the clauses that didn't come yet are left to be read
abbrev pub invariant-attribute::read_attribute_clauses-turns : goal.invariant-attribute::read_attribute_clauses-turns
invariant-attribute::read_attribute_clauses-turns l =
    Leads l.tokens templates is_attribute_clause (AnyOrder attribute_clauses) l.at
    (AnyOrder (attribute_slots l.draft)) l.next

abbrev pub decreases-attribute::read_attribute_clauses-turns : goal.decreases-attribute::read_attribute_clauses-turns
decreases-attribute::read_attribute_clauses-turns l = length l.tokens - l.next

-- the clauses that didn't come yet are left to be read
abbrev pub invariant-parameter::read_parameter_clauses-turns : goal.invariant-parameter::read_parameter_clauses-turns
invariant-parameter::read_parameter_clauses-turns l =
    Leads l.tokens templates is_parameter_clause (AnyOrder parameter_clauses) l.at
    (AnyOrder (parameter_slots l.draft)) l.next

abbrev pub decreases-parameter::read_parameter_clauses-turns : goal.decreases-parameter::read_parameter_clauses-turns
decreases-parameter::read_parameter_clauses-turns l = length l.tokens - l.next

-- the references from the next one on are left to be read
abbrev pub invariant-parameter::read_parameter_list-turns : goal.invariant-parameter::read_parameter_list-turns
invariant-parameter::read_parameter_list-turns l =
    Leads l.tokens templates (either comma (is_word_of (codes "PARAMETER"))) (Listed comma Empty (reference parameters))
    l.at (Listed comma (list_tree parameter_reference_tree Empty l.list.items) (reference parameters)) l.next

abbrev pub decreases-parameter::read_parameter_list-turns : goal.decreases-parameter::read_parameter_list-turns
decreases-parameter::read_parameter_list-turns l = length l.tokens - l.next
