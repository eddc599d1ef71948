-- The numbers of a list, from the last one on.
use Rattle.key_numbers.proofs.TakenLaws.{IsTaken}
use Rattle.key_numbers.proofs.number_lists.NumberLists.numbers.Given as goal

abbrev pub invariant-loop-step : goal.invariant-loop-step
invariant-loop-step l = IsTaken l.self l.list l.at l.numbers.items l._step
