-- What was appended so far.
use Rattle.std.proofs.Common.{◌≡◌, ◌++◌, take}
use Rattle.set_report.specs.Labels.{label_in}
use Rattle.set_report.specs.ReportLines.{entry_lines}
use Rattle.set_report.proofs.lines.write_lines.Given as goal

abbrev pub invariant-loop-id : goal.invariant-loop-id
invariant-loop-id l = l.into.items ≡ l.fn.into.items ++ entry_lines l.word (label_in l.labels) (take l.id-index l.ids)
