-- What the uses so far added.
use Rattle.std.proofs.Common.{take}
use Rattle.op_object.specs.GroupSets.{AddsUses}
use Rattle.op_object.proofs.group_uses.add_uses.Given as goal

abbrev pub invariant-loop-use_of : goal.invariant-loop-use_of
invariant-loop-use_of l =
    AddsUses l.asked (take l.use_of-index l.uses) l.fn.into.used l.into.used l.fn.into.members l.into.members
