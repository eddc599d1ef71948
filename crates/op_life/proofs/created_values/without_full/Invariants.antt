-- Those of the members so far that stay.
use Rattle.std.proofs.Common.{◌≡◌, take}
use Rattle.std.specs.Prelude.{filter, not}
use Rattle.term_values.specs.Typed.{TypedValue}
use Rattle.term_model.specs.CreateValues.{is_log_full}
use Rattle.op_life.proofs.created_values.without_full.Given as goal

abbrev pub invariant-loop-value : goal.invariant-loop-value
invariant-loop-value l =
    l.items.items ≡ filter (λ (x : TypedValue). not (is_log_full x)) (take l.value-index l.values)
