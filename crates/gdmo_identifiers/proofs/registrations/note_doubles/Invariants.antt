-- Those so far that stand behind the first of their arcs are noted.
use Rattle.std.proofs.Common.{take}
use Rattle.std.specs.BTreeMap.{get}
use Rattle.std.specs.Ordering.{nat_cmp}
use Rattle.std.specs.Prelude.{map}
use Rattle.gdmo_names.specs.FaultSets.{AnyOf, Notes}
use Rattle.gdmo_identifiers.specs.Registrations.{BehindBy}
use Rattle.gdmo_identifiers.proofs.registrations.note_doubles.Given as goal

abbrev pub invariant-loop-own : goal.invariant-loop-own
invariant-loop-own l = Notes (AnyOf (BehindBy (get nat_cmp l.table)) (map (λ x. x) (take l.own-index l.registered)))
    l.fn.faults.first l.faults.first
