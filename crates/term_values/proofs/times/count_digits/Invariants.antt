use Rattle.std.proofs.Common.{◌≡◌, ◌++◌, take, drop}
use Rattle.term_values.specs.Times.{front_digits, behind_digits}
use Rattle.term_values.proofs.times.count_digits.Given as goal

abbrev pub invariant-loop-i : goal.invariant-loop-i
invariant-loop-i l =
    (front_digits l.text ≡ take l.i l.text ++ front_digits (drop l.i l.text))
    × (behind_digits l.text ≡ behind_digits (drop l.i l.text))
