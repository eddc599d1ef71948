-- What was appended so far.
use Rattle.std.proofs.Common.{◌≡◌, ◌++◌, take}
use Rattle.set_report.specs.ReportText.{required_lines}
use Rattle.set_report.proofs.class_text.write_all_required.Given as goal

abbrev pub invariant-loop-id : goal.invariant-loop-id
invariant-loop-id l = l.into.items ≡ l.fn.into.items ++ required_lines l.schema l.of_class (take l.id-index l.ids)
