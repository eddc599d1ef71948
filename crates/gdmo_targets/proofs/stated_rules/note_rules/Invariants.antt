use Rattle.std.proofs.Common.{◌≡◌, ℕ}
use Rattle.gdmo_names.specs.FaultSets.{Notes}
use Rattle.gdmo_names.specs.FoundViews.{found_views}
use Rattle.gdmo_targets.specs.StatedRules.{AgainBefore, has_pair, rule_terms, stated_before}
use Rattle.gdmo_targets.proofs.stated_rules.note_rules.Given as goal

abbrev pub invariant-loop-place : goal.invariant-loop-place
invariant-loop-place l = ((other : ℕ × ℕ) → has_pair l.stated other
    ≡ stated_before (found_views l.templates) l.targets l.place other)
    × Notes (AgainBefore (found_views l.templates) (rule_terms l.rules) l.targets l.place) l.initial.faults.first
    l.faults.first
