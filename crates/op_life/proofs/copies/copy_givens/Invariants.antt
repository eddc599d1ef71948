-- The members so far.
use Rattle.std.proofs.Common.{◌≡◌, take}
use Rattle.op_life.proofs.copies.copy_givens.Given as goal

abbrev pub invariant-loop-given : goal.invariant-loop-given
invariant-loop-given l =
    l.items.items ≡ take l.given-index l.given-items
