-- The first places of those so far.
use Rattle.std.proofs.Common.{take}
use Rattle.std.specs.BTreeMap.{get}
use Rattle.std.specs.Ordering.{nat_cmp}
use Rattle.gdmo_identifiers.specs.Registrations.{TellsFirst}
use Rattle.gdmo_identifiers.proofs.registrations.first_places.Given as goal

abbrev pub invariant-loop-own : goal.invariant-loop-own
invariant-loop-own l = TellsFirst (take l.own-index l.registered) (get nat_cmp l.table)
