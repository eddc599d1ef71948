-- What those so far were given is kept, and which of them are other than earlier ones is noted.
use Rattle.std.proofs.Common.{take}
use Rattle.std.specs.BTreeMap.{get}
use Rattle.std.specs.Ordering.{nat_cmp}
use Rattle.gdmo_names.specs.FaultSets.{Notes}
use Rattle.gdmo_types.specs.PlaceFaults.{BeforePlace}
use Rattle.first_name_arcs.specs.GivenArcs.{TellSeen, UnequalBefore}
use Rattle.first_name_arcs.proofs.given_arcs.note_unequal_given.Given as goal

abbrev pub invariant-loop-own : goal.invariant-loop-own
invariant-loop-own l = TellSeen (take l.own-index l.given) (get nat_cmp l.table)
    × Notes (BeforePlace (UnequalBefore l.given) l.given l.own-index) l.fn.faults.first l.faults.first
