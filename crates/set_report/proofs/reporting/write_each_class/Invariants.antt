-- What was appended so far.
use Rattle.std.proofs.Common.{◌≡◌, ◌++◌, take}
use Rattle.std.specs.Prelude.{flat_map}
use Rattle.set_report.specs.ReportText.{class_text_of}
use Rattle.set_report.proofs.reporting.write_each_class.Given as goal

abbrev pub invariant-loop-id : goal.invariant-loop-id
invariant-loop-id l = l.into.items ≡ l.fn.into.items ++ flat_map (class_text_of l.schema) (take l.id-index l.ids)
