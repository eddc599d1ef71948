-- The arc of a root's name is that of the definition: its tests in the same order.
use Rattle.std.proofs.Common.{rules}
use Rattle.gdmo_names.specs.FirstNames.{root_arc}
use Rattle.gdmo_first_names.proofs.roots.root_arc.Goals as goal

pub returns-then-is_named : goal.returns-then-is_named
unfolding root_arc
returns-then-is_named c = search rules

pub returns-then-is_named-2 : goal.returns-then-is_named-2
unfolding root_arc
returns-then-is_named-2 c = search rules

pub returns-then-is_named-3 : goal.returns-then-is_named-3
unfolding root_arc
returns-then-is_named-3 c = search rules

pub returns-then-is_named-4 : goal.returns-then-is_named-4
unfolding root_arc
returns-then-is_named-4 c = search rules

pub returns-then-is_named-5 : goal.returns-then-is_named-5
unfolding root_arc
returns-then-is_named-5 c = search rules

pub returns-else-is_named-5 : goal.returns-else-is_named-5
unfolding root_arc
returns-else-is_named-5 c = search rules
