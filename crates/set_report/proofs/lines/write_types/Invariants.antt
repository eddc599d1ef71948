-- What was appended so far.
use Rattle.std.proofs.Common.{◌≡◌, ◌++◌, take}
use Rattle.set_report.specs.ReportLines.{type_lines}
use Rattle.set_report.proofs.lines.write_types.Given as goal

abbrev pub invariant-loop-of_type : goal.invariant-loop-of_type
invariant-loop-of_type l = l.into.items ≡ l.fn.into.items ++ type_lines l.word l.id (take l.of_type-index l.types)
