use Rattle.std.proofs.Common.{◌≡◌, ◌≤◌, drop, length}
use Rattle.term_model.specs.Scope.{level_below}
use Rattle.scope_select.proofs.levels.level_below.Given as goal

abbrev pub invariant-loop-i : goal.invariant-loop-i
invariant-loop-i l =
    (l.i ≤ length l.name) × (level_below (drop l.i l.base) (drop l.i l.name) ≡ level_below l.base l.name)
