use Rattle.std.proofs.Common.{◌≡◌, drop}
use Rattle.term_values.specs.Bounded.{one_allows}
use Rattle.term_values.proofs.bounds.one_allows.Given as goal

abbrev pub invariant-loop-least : goal.invariant-loop-least
invariant-loop-least l = one_allows l.pairs l.number ≡ one_allows (drop l.least-index l.pairs) l.number
