use Rattle.subtree_locks.proofs.Tables.{table_left}
use Rattle.subtree_locks.proofs.lock_table.LockTable.leave.Goals as goal

pub invariant_of-self : goal.invariant_of-self
invariant_of-self c =
    table_left c.self.inside.rows.entries c.remove.new.self.entries c.args.op c.self.invariant
    c.remove.ensures.updates.0

pub returns-clause-table : goal.returns-clause-table
returns-clause-table c =
    table_left c.self.inside.rows.entries c.remove.new.self.entries c.args.op c.self.invariant
    c.remove.ensures.updates.0
