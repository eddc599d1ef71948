use Rattle.std.proofs.Common.{drop}
use Rattle.value_match.specs.SetMarks.{IsLeastMark, IsMarkFrom}
use Rattle.value_match.proofs.set_marks.least_mark.Given as goal

abbrev pub invariant-loop-i : goal.invariant-loop-i
invariant-loop-i l = record {
  least : IsLeastMark (drop l.i l.items) (drop l.i l.slots) l.from l.least;
  there : IsMarkFrom (drop l.i l.items) (drop l.i l.slots) l.from l.least;
}
