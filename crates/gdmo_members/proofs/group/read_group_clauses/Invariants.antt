use Rattle.std.proofs.Common.{◌-◌, length}
use Rattle.token_grammar.specs.Form.{AnyOrder}
use Rattle.token_grammar.specs.Turns.{Leads}
use Rattle.gdmo_members.specs.Templates.{templates, group_clauses}
use Rattle.gdmo_members.specs.FurtherTrees.{group_slots, is_group_clause}
use Rattle.gdmo_members.proofs.group.read_group_clauses.Given as goal

-- the clauses that didn't come yet are left to be read
abbrev pub invariant-turns : goal.invariant-turns
invariant-turns l = Leads l.tokens templates is_group_clause (AnyOrder group_clauses) l.at
    (AnyOrder (group_slots l.clauses)) l.next

abbrev pub decreases-turns : goal.decreases-turns
decreases-turns l = length l.tokens - l.next
