-- Grants: the answer to an operation that asks for its next lock. docs/PROFILE.md, section 20.
use Rattle.std.specs.Prelude.{◌≡◌, ◌≢◌, ◌+◌, ℕ, true, false, Some, length, slice_get}
use Rattle.std.specs.BTreeMap.{is_at}
use Rattle.std.specs.Map.{set_value}
use Rattle.std.specs.Ordering.{nat_cmp}
use Rattle.lock_model.specs.declared.lock_name.LockName.{LockName}
use Rattle.lock_model.specs.declared.lock_name.Mode.{Mode}
use Rattle.lock_model.specs.Holdings.{bars}
use Rattle.subtree_locks.specs.declared.grant.Grant.{Grant}
use Rattle.subtree_locks.specs.declared.grant.Grant.TheVariants as grant
use Rattle.subtree_locks.specs.declared.lock_table.Row.{Row}
use Rattle.subtree_locks.specs.LockRows.{LockRows, holding, path_now, row_of}

-- no other operation holds on the lock name a mode that doesn't go with the wanted one
abbrev pub NoneBars : LockRows → ℕ → LockName × Mode → Type 0
NoneBars rows op wanted = (other : ℕ) (row : Row) → row_of rows other ≡ Some row → other ≢ op
    → bars wanted (holding other row) ≡ false

-- this one does
abbrev pub BarsNext : LockRows → ℕ → LockName × Mode → ℕ → Type 0
BarsNext rows op wanted by = (by ≢ op)
    × ((row : Row) × (row_of rows by ≡ Some row) × (bars wanted (holding by row) ≡ true))

-- the lock at the first place that isn't held is granted exactly where no other operation bars it
abbrev pub IsAnswer : LockRows → ℕ → Row → Grant → Type 0
IsAnswer rows op row (grant.Held place) = (place ≡ row.held)
    × ((wanted : LockName × Mode) × (slice_get (path_now row) place ≡ Some wanted) × NoneBars rows op wanted)
IsAnswer rows op row grant.Full = row.held ≡ length (path_now row)
IsAnswer rows op row (grant.Blocked by at) = (at ≡ row.held)
    × ((wanted : LockName × Mode) × (slice_get (path_now row) at ≡ Some wanted) × BarsNext rows op wanted by)

-- and then it holds one place more
abbrev pub left_by : LockRows → ℕ → Row → Grant → LockRows
left_by rows op row (grant.Held place) = set_value (is_at (nat_cmp op)) rows (record row { held = place + 1 })
left_by rows op row _ = rows
