-- The attributes so far are joined with their bases.
use Rattle.std.proofs.Common.{◌≡◌}
use Rattle.link_graphs.specs.Cycles.{IsBehindTargets}
use Rattle.linked_parts.specs.declared.linked.Linked.{Linked}
use Rattle.class_faults.specs.CyclicFaults.{bases_of_each}
use Rattle.linked_types.proofs.RuleLaws.{AllSoFar}
use Rattle.linked_types.proofs.derived_attributes.all_rules.Given as goal

abbrev pub invariant-loop-place : goal.invariant-loop-place
invariant-loop-place l = (linked : Linked) → linked.attributes.items ≡ l.attributes →
    IsBehindTargets (bases_of_each l.attributes) l.order → AllSoFar linked l.order l.place-index l.rules.items
