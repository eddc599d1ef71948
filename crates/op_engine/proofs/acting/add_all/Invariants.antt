-- What was added so far.
use Rattle.std.proofs.Common.{◌≡◌, ◌++◌}
use Rattle.op_engine.proofs.acting.add_all.Given as goal

abbrev pub invariant-loop-member : goal.invariant-loop-member
invariant-loop-member g l =
    (l.yielded ++ l.member-iterator.rest.items ≡ l.initial.member-iterator.rest.items)
    × (l.into.items ≡ l.fn.into.items ++ l.yielded)
