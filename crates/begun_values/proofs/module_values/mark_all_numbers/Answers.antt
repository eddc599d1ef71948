-- One more assignment, and all of them.
use Rattle.std.proofs.Common.{sym}
use Rattle.std.proofs.Math.Path.{subst}
use Rattle.begun_values.specs.ModuleValues.{AssignedFirsts, IsLast}
use Rattle.begun_values.proofs.NumberLaws.{below_step}
use Rattle.begun_values.proofs.module_values.mark_all_numbers.Goals as goal

pub loop-number-preserved : goal.loop-number-preserved
loop-number-preserved c = λ ms are last.
    let before = c.loop-number.invariant ms are last in (
      subst (λ z. IsLast z c.mark_number.new.last) are.of_types
          (c.in_ok-mark_number.ensures.kept (subst (λ z. IsLast z c.loop-number.last) (sym are.of_types) before.0)),
      below_step (AssignedFirsts ms) c.loop-number.number before.1
          (c.in_ok-mark_number.ensures.marked ms are before.0),
    )
