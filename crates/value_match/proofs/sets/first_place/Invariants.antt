use Rattle.std.proofs.Common.{drop}
use Rattle.term_values.specs.Typed.{listed}
use Rattle.term_values.specs.Matching.{Have}
use Rattle.value_match.proofs.sets.first_place.Given as goal

abbrev pub invariant-loop-at : goal.invariant-loop-at
invariant-loop-at l = Have (listed l.members) l.value → Have (listed (drop l.at l.members)) l.value
