-- The values that are assigned, and those behind DEFAULT.
use Rattle.gdmo_types.proofs.FieldLaws.{on_ok_by}
use Rattle.begun_values.proofs.ModuleLaws.{modules_marked}
use Rattle.begun_values.proofs.module_values.mark_both.Goals as goal

pub returns : goal.returns
returns c = on_ok_by c.mark_all_defaults.result (λ marked ms are.
    modules_marked ms (c.in_ok-mark_assigned.ensures ms are) (marked ms are)) c.mark_all_defaults.ensures
