-- The rules before a place.
use Rattle.std.proofs.Common.{◌≡◌, length}
use Rattle.link_graphs.specs.Leading.{target_lists}
use Rattle.gdmo_rules.proofs.StepNameLaws.{ByClassBefore}
use Rattle.gdmo_rules.proofs.step_names.rules_by_class.Given as goal

abbrev pub invariant-loop-place : goal.invariant-loop-place
invariant-loop-place l =
    (length (target_lists l.graph) ≡ l.count) × ByClassBefore l.targets (target_lists l.graph) l.place
