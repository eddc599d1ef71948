use Rattle.std.proofs.Common.{◌-◌, length}
use Rattle.token_grammar.specs.Form.{Many, Empty}
use Rattle.token_grammar.specs.Parts.{list_tree}
use Rattle.token_grammar.specs.Turns.{Leads}
use Rattle.gdmo_members.specs.Clauses.{parameters, reference}
use Rattle.gdmo_members.specs.Templates.{templates}
use Rattle.gdmo_members.specs.MemberTrees.{parameter_reference_tree}
use Rattle.gdmo_classes.specs.ClassForms.{is_word_or_string}
use Rattle.gdmo_classes.proofs.rows.read_parameter_row.Given as goal

-- the references from the next one on are left to be read
abbrev pub invariant-turns : goal.invariant-turns
invariant-turns l = Leads l.tokens templates is_word_or_string (Many Empty (reference parameters)) l.at
    (Many (list_tree parameter_reference_tree Empty l.row.items) (reference parameters)) l.next

abbrev pub decreases-turns : goal.decreases-turns
decreases-turns l = length l.tokens - l.next
