use Rattle.subtree_locks.proofs.Tables.{table_entered}
use Rattle.subtree_locks.proofs.lock_table.LockTable.enter.Goals as goal

pub invariant_of-self-2 : goal.invariant_of-self-2
invariant_of-self-2 c =
    table_entered c.self.inside.rows.entries c.insert.new.self.entries c.args.op c.args.path c.self.invariant
    c.places-way.ensures.way c.in_ok-insert.ensures.updates.0

pub returns-clause-table : goal.returns-clause-table
returns-clause-table c =
    table_entered c.self.inside.rows.entries c.insert.new.self.entries c.args.op c.args.path c.self.invariant
    c.places-way.ensures.way c.in_ok-insert.ensures.updates.0
