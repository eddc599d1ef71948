-- One more assignment, and all of them.
use Rattle.begun_values.specs.ModuleValues.{DefaultFirstsAt}
use Rattle.begun_values.proofs.NumberLaws.{below_step}
use Rattle.begun_values.proofs.module_values.mark_all_defaults.Goals as goal

pub loop-number-preserved : goal.loop-number-preserved
loop-number-preserved c = λ ms are.
    below_step (DefaultFirstsAt ms) c.loop-number.number (c.loop-number.invariant ms are)
    (c.in_ok-mark_defaults_at.ensures ms are)
