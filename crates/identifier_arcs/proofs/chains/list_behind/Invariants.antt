-- A list has so many numbers behind it.
use Rattle.std.proofs.Common.{take}
use Rattle.key_numbers.proofs.BuildingLaws.{IsBuilt}
use Rattle.identifier_arcs.proofs.chains.list_behind.Given as goal

abbrev pub invariant-loop-number : goal.invariant-loop-number
invariant-loop-number l = IsBuilt l.fn.lists l.before l.lists l.list (take l.number-index l.numbers)
