use Rattle.std.proofs.Common.{◌+◌, ◌-◌, ◌*◌, length, codes}
use Rattle.token_grammar.specs.Form.{AnyOrder, Listed, Empty}
use Rattle.token_grammar.specs.Parts.{either, list_tree}
use Rattle.token_grammar.specs.TokenTests.{is_word_of}
use Rattle.token_grammar.specs.Turns.{Leads}
use Rattle.gdmo_members.specs.Clauses.{classes, comma, reference}
use Rattle.gdmo_members.specs.Templates.{templates, class_clauses}
use Rattle.gdmo_classes.specs.ClassTrees.{class_slots, class_reference_tree, is_class_clause}
use Rattle.gdmo_classes.proofs.class.+classes.Given as goal

-- the tokens that are left, and for one place the order in which the functions call one another
abbrev pub decreases-read_class_in_line : goal.decreases-read_class_in_line
decreases-read_class_in_line l = 4 * (length l.tokens.now - l.at) + 1

abbrev pub decreases-read_class_reference : goal.decreases-read_class_reference
decreases-read_class_reference l = 4 * (length l.tokens.now - l.at) + 2

abbrev pub decreases-read_class_list : goal.decreases-read_class_list
decreases-read_class_list l = 4 * (length l.tokens.now - l.at) + 3

abbrev pub decreases-read_superclasses_clause : goal.decreases-read_superclasses_clause
decreases-read_superclasses_clause l = 4 * (length l.tokens.now - l.at) + 1

abbrev pub decreases-read_class_clauses : goal.decreases-read_class_clauses
decreases-read_class_clauses l = 4 * (length l.tokens.now - l.at) + 3

abbrev pub decreases-read_class_clause : goal.decreases-read_class_clause
decreases-read_class_clause l = 4 * (length l.tokens.now - l.at) + 2

-- the clauses that didn't come yet are left to be read
abbrev pub invariant-read_class_clauses-turns : goal.invariant-read_class_clauses-turns
invariant-read_class_clauses-turns l =
    Leads l.tokens templates is_class_clause (AnyOrder class_clauses) l.at (AnyOrder (class_slots l.clauses)) l.next

abbrev pub decreases-read_class_clauses-turns : goal.decreases-read_class_clauses-turns
decreases-read_class_clauses-turns l = length l.tokens - l.next

-- the references from the next one on are left to be read
abbrev pub invariant-read_class_list-turns : goal.invariant-read_class_list-turns
invariant-read_class_list-turns l =
    Leads l.tokens templates (either comma (is_word_of (codes "MANAGED"))) (Listed comma Empty (reference classes)) l.at
    (Listed comma (list_tree class_reference_tree Empty l.list.items) (reference classes)) l.next

abbrev pub decreases-read_class_list-turns : goal.decreases-read_class_list-turns
decreases-read_class_list-turns l = length l.tokens - l.next
