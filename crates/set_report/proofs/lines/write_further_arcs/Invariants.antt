-- What was appended so far.
use Rattle.std.proofs.Common.{◌≡◌, ◌++◌, take}
use Rattle.std.specs.Prelude.{ℕ, codes, decimal, flat_map}
use Rattle.set_report.proofs.lines.write_further_arcs.Given as goal

abbrev pub invariant-loop-arc : goal.invariant-loop-arc
invariant-loop-arc l =
    l.into.items
    ≡ l.fn.into.items ++ flat_map (λ (arc : ℕ). codes "." ++ decimal arc) (take l.arc-index l.arcs)
