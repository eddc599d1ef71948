-- The names of the values of the assignments so far are marked.
use Rattle.std.proofs.Common.{List}
use Rattle.asn1_names.specs.ModuleTerms.{ModuleTerm}
use Rattle.gdmo_begun_names.specs.BegunMarks.{Marks}
use Rattle.begun_values.specs.ModuleValues.{AreResolved, AssignedFirsts, BelowFirsts, IsLast}
use Rattle.begun_values.proofs.module_values.mark_all_numbers.Given as goal

abbrev pub invariant-loop-number : goal.invariant-loop-number
invariant-loop-number l = (ms : List ModuleTerm) → AreResolved ms l.modules → IsLast ms l.initial.last →
    (IsLast ms l.last) × Marks (BelowFirsts (AssignedFirsts ms) l.number) l.initial.names l.names
