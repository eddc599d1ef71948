use Rattle.std.proofs.Common.{◌≤◌, length, drop}
use Rattle.term_values.specs.Typed.{listed}
use Rattle.term_values.specs.Typed.TypedValue.{Octets}
use Rattle.term_values.specs.MatchingPieces.{StandFrom}
use Rattle.value_match.proofs.substrings.stand_in_octets.Given as goal

abbrev pub invariant-loop-piece : goal.invariant-loop-piece
invariant-loop-piece l =
    (StandFrom Octets l.octets 0 (listed l.pieces)
    → StandFrom Octets l.octets l.from (listed (drop l.piece-index l.pieces)))
    × (StandFrom Octets l.octets l.from (listed (drop l.piece-index l.pieces))
    → StandFrom Octets l.octets 0 (listed l.pieces))
    × (l.from ≤ length l.octets)
