use Rattle.std.proofs.Common.{◌-◌, length}
use Rattle.token_grammar.specs.Form.{AnyOrder}
use Rattle.token_grammar.specs.Turns.{Leads}
use Rattle.gdmo_members.specs.Templates.{templates, name_binding_clauses}
use Rattle.gdmo_classes.specs.BindingTrees.{name_binding_slots, is_name_binding_clause}
use Rattle.gdmo_classes.proofs.name_binding.read_name_binding_clauses.Given as goal

-- the clauses that didn't come yet are left to be read
abbrev pub invariant-turns : goal.invariant-turns
invariant-turns l = Leads l.tokens templates is_name_binding_clause (AnyOrder name_binding_clauses) l.at
    (AnyOrder (name_binding_slots l.draft)) l.next

abbrev pub decreases-turns : goal.decreases-turns
decreases-turns l = length l.tokens - l.next
