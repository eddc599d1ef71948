use Rattle.std.proofs.Common.{◌≡◌, ◌++◌, ◌≤◌, ◌+◌, ◌*◌, length}
use Rattle.term_model.specs.NamedObjects.{names}
use Rattle.scope_select.specs.Ranges.{begun_behind, names_behind}
use Rattle.scope_select.proofs.WalkLaws.{IsFrom, within}
use Rattle.scope_select.proofs.walking.in_scope.Given as goal

abbrev pub invariant-loop-next : goal.invariant-loop-next
invariant-loop-next g l =
    (within l.base l.scope (names (g.M.Ranged.objects l.mib))
    ≡ l.reached ++ within l.base l.scope (names_behind l.here (names (g.M.Ranged.objects l.mib))))
    × IsFrom l.base l.here × (length l.reached ≤ l.limit)
    × (length (g.M.Ranged.objects l.mib) ≤ 100000
    → l.steps + 128 * length (begun_behind l.base l.here (names (g.M.Ranged.objects l.mib)))
    ≤ l.fn.steps + 128 * (length (begun_behind l.base l.base (names (g.M.Ranged.objects l.mib))) + 1))

abbrev pub decreases-loop-next : goal.decreases-loop-next
decreases-loop-next g l = length (names_behind l.here (names (g.M.Ranged.objects l.mib)))
