-- What was found so far, and what the rest has.
use Rattle.std.proofs.Common.{◌≡◌, ◌++◌, drop}
use Rattle.term_model.specs.ObjectSet.{differing}
use Rattle.object_modifications.proofs.object_set.differing.Given as goal

abbrev pub invariant-loop-i : goal.invariant-loop-i
invariant-loop-i l =
    differing l.records l.before l.now
    ≡ l.diffs.items ++ differing l.records (drop l.i l.before) (drop l.i l.now)
