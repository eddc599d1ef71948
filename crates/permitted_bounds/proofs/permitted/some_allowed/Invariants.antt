use Rattle.std.proofs.Common.{◌≡◌, ℤ, false, take}
use Rattle.term_values.specs.Bounded.{one_allows}
use Rattle.permitted_bounds.proofs.permitted.some_allowed.Given as goal

abbrev pub invariant-loop-pair : goal.invariant-loop-pair
invariant-loop-pair l = (n : ℤ) → one_allows (take l.pair-index l.pairs) n ≡ false
