-- What was appended so far.
use Rattle.std.proofs.Common.{◌≡◌, ◌++◌, take}
use Rattle.set_report.specs.ReportLines.{unregistered_lines}
use Rattle.set_report.proofs.lines.write_unregistered.Given as goal

abbrev pub invariant-loop-label : goal.invariant-loop-label
invariant-loop-label l = l.into.items ≡ l.fn.into.items ++ unregistered_lines (take l.label-index l.labels)
