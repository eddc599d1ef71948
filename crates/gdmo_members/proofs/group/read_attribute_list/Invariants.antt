use Rattle.std.proofs.Common.{◌-◌, length, codes}
use Rattle.token_grammar.specs.Form.{Listed, Empty}
use Rattle.token_grammar.specs.Parts.{either, list_tree}
use Rattle.token_grammar.specs.TokenTests.{is_word_of}
use Rattle.token_grammar.proofs.Turns.{Leads}
use Rattle.gdmo_members.specs.Clauses.{attributes, comma, reference}
use Rattle.gdmo_members.specs.Templates.{templates}
use Rattle.gdmo_members.specs.MemberTrees.{attribute_reference_tree}
use Rattle.gdmo_members.proofs.group.read_attribute_list.Given as goal

-- the parts from the next one on are left to be read
abbrev pub invariant-turns : goal.invariant-turns
invariant-turns l = Leads l.tokens templates (either comma (is_word_of (codes "ATTRIBUTE")))
    (Listed comma Empty (reference attributes)) l.at
    (Listed comma (list_tree attribute_reference_tree Empty l.list.items) (reference attributes)) l.next

abbrev pub decreases-turns : goal.decreases-turns
decreases-turns l = length l.tokens - l.next
