use Rattle.std.proofs.Common.{◌-◌, length}
use Rattle.token_grammar.specs.Form.{Many, Empty}
use Rattle.token_grammar.specs.Parts.{list_tree}
use Rattle.token_grammar.proofs.Turns.{Leads}
use Rattle.gdmo_members.specs.Clauses.{context_word, is_context_start}
use Rattle.gdmo_members.specs.Templates.{templates}
use Rattle.gdmo_members.specs.Trees.{context_word_tree}
use Rattle.gdmo_members.proofs.context.read_context_words.Given as goal

-- the words from the next one on are left to be read
abbrev pub invariant-turns : goal.invariant-turns
invariant-turns l = Leads l.tokens templates is_context_start (Many Empty context_word) l.at
    (Many (list_tree context_word_tree Empty l.words.items) context_word) l.next

abbrev pub decreases-turns : goal.decreases-turns
decreases-turns l = length l.tokens - l.next
