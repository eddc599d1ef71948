-- Nothing is kept at first.
use Rattle.std.proofs.Common.{◌∙◌, None, ap}
use Rattle.asn1_names.specs.AssignmentNumbers.{assignment_count}
use Rattle.gdmo_types.proofs.FieldLaws.{on_ok_by}
use Rattle.begun_values.proofs.ModuleLaws.{nothing_last}
use Rattle.begun_values.proofs.module_values.mark_assigned.Goals as goal

pub returns : goal.returns
returns c = on_ok_by c.mark_all_numbers.result (λ marked ms are. marked ms are
    (nothing_last ms (record { target = c.count.result; syntax = None })
    (c.count.ensures ∙ ap assignment_count are.of_tables))) c.mark_all_numbers.ensures
