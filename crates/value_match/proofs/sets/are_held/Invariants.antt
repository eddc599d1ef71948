use Rattle.std.proofs.Common.{◌≤◌, length, drop}
use Rattle.term_values.specs.Typed.{listed}
use Rattle.term_values.specs.Matching.{AreHeld}
use Rattle.value_match.proofs.sets.are_held.Given as goal

abbrev pub invariant-loop-member : goal.invariant-loop-member
invariant-loop-member l =
    (AreHeld (listed (drop l.member-index l.asserted)) (listed l.held) → AreHeld (listed l.asserted) (listed l.held))
    × (l.from ≤ length l.held)
