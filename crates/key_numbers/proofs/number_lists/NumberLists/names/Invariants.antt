-- Names with their numbers, from the last one on.
use Rattle.std.proofs.Common.{◌-◌, drop, length}
use Rattle.key_numbers.specs.KeyNumbers.{IsSketchNumber, names_sketch}
use Rattle.key_numbers.specs.NumberedLists.{Grows}
use Rattle.key_numbers.proofs.number_lists.NumberLists.names.Given as goal

abbrev pub invariant-loop-i : goal.invariant-loop-i
invariant-loop-i l = Grows l.fn.self l.self ×
    IsSketchNumber l.self (names_sketch (drop (length l.names - l.i) l.names)) l.rest
