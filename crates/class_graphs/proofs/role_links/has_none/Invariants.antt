-- None stands at none of the places so far.
use Rattle.std.proofs.Common.{◌≡◌, ◌<◌, ℕ, None, Some}
use Rattle.std.specs.List.{slice_get}
use Rattle.class_graphs.proofs.role_links.has_none.Given as goal

abbrev pub invariant-loop-number : goal.invariant-loop-number
invariant-loop-number l = (k : ℕ) → k < l.number-index → slice_get l.numbers k ≡ Some None → ⊥
