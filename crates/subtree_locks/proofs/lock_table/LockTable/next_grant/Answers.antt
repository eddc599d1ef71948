use Rattle.subtree_locks.proofs.Tables.{granted_table}
use Rattle.subtree_locks.proofs.lock_table.LockTable.next_grant.Goals as goal

pub invariant_of-self : goal.invariant_of-self
invariant_of-self c =
    granted_table c.self.inside.rows.entries c.args.self.now c.hold.new.rows.entries c.args.op c.in-Held.place
    c.self.view_is c.self.invariant c.requires c.in-Held.ensures.answer c.hold.ensures

pub returns-in-Held-clause-table : goal.returns-in-Held-clause-table
returns-in-Held-clause-table c =
    granted_table c.self.inside.rows.entries c.args.self.now c.hold.new.rows.entries c.args.op c.in-Held.place
    c.self.view_is c.self.invariant c.requires c.in-Held.ensures.answer c.hold.ensures
