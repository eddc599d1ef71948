use Rattle.std.proofs.Common.{ℕ, ◌-◌, length}
use Rattle.token_grammar.specs.Form.{Form, Many, Empty}
use Rattle.token_grammar.specs.TokenTests.{is_arc_start}
use Rattle.token_grammar.specs.Parts.{arc, arc_tree, list_tree}
use Rattle.token_grammar.proofs.Turns.{Leads}
use Rattle.token_grammar.proofs.object_identifier.read_arcs.Given as goal

-- the arcs from the next one on are left to be read
abbrev pub invariant-turns : goal.invariant-turns
invariant-turns l = (grammar : ℕ → Form)
    → Leads l.tokens grammar is_arc_start (Many Empty arc) l.at
    (Many (list_tree arc_tree Empty l.arcs.items) arc) l.next

abbrev pub decreases-turns : goal.decreases-turns
decreases-turns l = length l.tokens - l.next
