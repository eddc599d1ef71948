-- Nothing is marked so far.
use Rattle.std.proofs.Common.{true, take}
use Rattle.std.specs.Prelude.{Contains}
use Rattle.joined_properties.proofs.inheriting.is_any.Given as goal

abbrev pub invariant-loop-mark : goal.invariant-loop-mark
invariant-loop-mark l = ¬ Contains (take l.mark-index l.marks) true
