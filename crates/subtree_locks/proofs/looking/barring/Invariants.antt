use Rattle.subtree_locks.proofs.Tables.{Unbarred}
use Rattle.subtree_locks.proofs.looking.barring.Given as goal

abbrev pub invariant-loop-other : goal.invariant-loop-other
invariant-loop-other l = Unbarred l.rows.entries l.op (l.lock, l.mode) l.other-iterator
