use Rattle.std.proofs.Common.{◌-◌, length}
use Rattle.token_grammar.specs.Form.{AnyOrder}
use Rattle.token_grammar.specs.Turns.{Leads}
use Rattle.gdmo_members.specs.Templates.{templates, action_clauses}
use Rattle.gdmo_members.specs.FurtherTrees.{action_slots, is_action_clause}
use Rattle.gdmo_members.proofs.action.read_action_clauses.Given as goal

-- the clauses that didn't come yet are left to be read
abbrev pub invariant-turns : goal.invariant-turns
invariant-turns l = Leads l.tokens templates is_action_clause (AnyOrder action_clauses) l.at
    (AnyOrder (action_slots l.clauses)) l.next

abbrev pub decreases-turns : goal.decreases-turns
decreases-turns l = length l.tokens - l.next
