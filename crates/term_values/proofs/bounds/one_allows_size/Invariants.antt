use Rattle.std.proofs.Common.{◌≡◌, drop, pos}
use Rattle.term_values.specs.Bounded.{one_allows}
use Rattle.term_values.proofs.bounds.one_allows_size.Given as goal

abbrev pub invariant-loop-least : goal.invariant-loop-least
invariant-loop-least l = one_allows l.pairs (pos l.size) ≡ one_allows (drop l.least-index l.pairs) (pos l.size)
