-- Octets behind a list.
use Rattle.std.proofs.Common.{take}
use Rattle.key_numbers.proofs.BuildingLaws.{IsBuilt}
use Rattle.key_numbers.proofs.number_lists.NumberLists.extended_by_octets.Given as goal

abbrev pub invariant-loop-i : goal.invariant-loop-i
invariant-loop-i l = IsBuilt l.fn.self l.before l.self l.list (take l.i l.octets)
