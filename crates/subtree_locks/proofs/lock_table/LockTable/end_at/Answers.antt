use Rattle.subtree_locks.proofs.Tables.{ended_table}
use Rattle.subtree_locks.proofs.lock_table.LockTable.end_at.Goals as goal

pub invariant_of-self : goal.invariant_of-self
invariant_of-self c =
    ended_table c.self.inside.rows.entries c.args.self.now c.end_row.new.rows.entries c.args.op c.args.at
    c.self.view_is c.self.invariant c.requires.there c.requires.waits c.end_row.ensures

pub returns-clause-table : goal.returns-clause-table
returns-clause-table c =
    ended_table c.self.inside.rows.entries c.args.self.now c.end_row.new.rows.entries c.args.op c.args.at
    c.self.view_is c.self.invariant c.requires.there c.requires.waits c.end_row.ensures
