-- What was copied so far.
use Rattle.std.proofs.Common.{◌≡◌, take}
use Rattle.set_report.proofs.class_text.types_in_order.Given as goal

abbrev pub invariant-loop-of_type : goal.invariant-loop-of_type
invariant-loop-of_type l = l.copied.items ≡ take l.of_type-index l.types
