use Rattle.std.proofs.Common.{◌-◌, length}
use Rattle.token_grammar.specs.Form.{AnyOrder}
use Rattle.token_grammar.specs.Turns.{Leads}
use Rattle.gdmo_members.specs.Templates.{templates, package_clauses}
use Rattle.gdmo_classes.specs.PackageTrees.{package_slots, is_package_clause}
use Rattle.gdmo_classes.proofs.package.read_package_clauses.Given as goal

-- the clauses that didn't come yet are left to be read
abbrev pub invariant-turns : goal.invariant-turns
invariant-turns l = Leads l.tokens templates is_package_clause (AnyOrder package_clauses) l.at
    (AnyOrder (package_slots l.clauses)) l.next

abbrev pub decreases-turns : goal.decreases-turns
decreases-turns l = length l.tokens - l.next
