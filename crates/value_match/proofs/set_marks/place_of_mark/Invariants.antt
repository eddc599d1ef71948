use Rattle.std.proofs.Common.{◌≡◌, drop}
use Rattle.value_match.specs.SetMarks.{key_at}
use Rattle.value_match.proofs.set_marks.place_of_mark.Given as goal

abbrev pub invariant-loop-i : goal.invariant-loop-i
invariant-loop-i l = key_at l.items l.slots l.mark ≡ key_at (drop l.i l.items) (drop l.i l.slots) l.mark
