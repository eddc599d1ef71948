-- LockRows: the operations in the lock table, each with its path and what it holds of it. docs/PROFILE.md, section 20.
use Rattle.std.specs.Prelude.{◌≡◌, ◌≢◌, ◌<◌, ◌≤◌, ℕ, List, cond, Option, None, Some, IfSome, length, take}
use Rattle.std.specs.BTreeMap.{is_at}
use Rattle.std.specs.Map.{lookup, set_value}
use Rattle.std.specs.Ordering.{nat_cmp}
use Rattle.lock_model.specs.LockPath.{IsWay, Path}
use Rattle.lock_model.specs.PathLaws.{GoTogether}
use Rattle.lock_model.specs.PathEnds.{ended}
use Rattle.lock_model.specs.Holdings.{Holding}
use Rattle.subtree_locks.specs.declared.lock_table.Row.{Row}

-- operations by rising number
abbrev pub LockRows : Type 0
LockRows = List (ℕ × Row)

abbrev pub row_of : LockRows → ℕ → Option Row
row_of rows op = lookup (is_at (nat_cmp op)) rows

-- of an operation that was entered and holds nothing
abbrev pub entered_row : Path → Row
entered_row path = record { path = path; end = None; held = 0 }

-- the path as it ends now, and the places of it that are held
abbrev pub path_now : Row → Path
path_now row = ended row.path row.end

abbrev pub held_by : Row → Path
held_by row = take row.held (path_now row)

abbrev pub holding : ℕ → Row → Holding
holding op row = record { op = op; path = path_now row; held = row.held }

-- places are one level deeper each, the path ends at one of them, and no more are held than it has
pub record IsRow (row : Row) : Type 0 where
  pub way : IsWay row.path
  pub ends : IfSome row.end (λ at. at < length row.path)
  pub within : row.held ≤ length (path_now row)

-- modes of different operations on one lock name go together
pub record IsTable (rows : LockRows) : Type 0 where
  pub each : (op : ℕ) (row : Row) → row_of rows op ≡ Some row → IsRow row
  pub together : (a b : ℕ) (one other : Row) → row_of rows a ≡ Some one → row_of rows b ≡ Some other → a ≢ b
      → GoTogether (held_by one) (held_by other)

-- it hasn't its whole path, and holds neither the place nor one behind it
abbrev pub CanEndAt : Row → Option ℕ → Type 0
CanEndAt row at = (row.held < length (path_now row)) × IfSome at (λ k. (k < length row.path) × (row.held ≤ k))

-- a row in place of another one of the same operation
pub record IsChanged (before : LockRows) (op : ℕ) (row : Row) (after : LockRows) : Type 0 where
  pub entries : after ≡ set_value (is_at (nat_cmp op)) before row
  pub rows : (q : ℕ) → row_of after q ≡ cond (is_at (nat_cmp op) q) (Some row) (row_of before q)
