-- What was appended so far.
use Rattle.std.proofs.Common.{◌≡◌, ◌++◌, take}
use Rattle.set_report.proofs.class_lists.append_ids.Given as goal

abbrev pub invariant-loop-id : goal.invariant-loop-id
invariant-loop-id l = l.into.items ≡ l.fn.into.items ++ take l.id-index l.ids
