-- Who holds which places of its path, who bars whom, and that somebody can go on.
use Rattle.std.specs.Prelude.{◌≡◌, ◌<◌, ℕ, ◌==◌, ◌&&◌, not, List, Bool, true, Contains}
use Rattle.std.specs.Prelude.{Option, Some, find, is_none, slice_get, take}
use Rattle.std.specs.List.{list_any}
use Rattle.std.specs.Option.{option_map_or}
use Rattle.lock_model.specs.declared.lock_name.LockName.{LockName}
use Rattle.lock_model.specs.declared.lock_name.Mode.{Mode}
use Rattle.lock_model.specs.declared.path.Wanted.{Wanted}
use Rattle.lock_model.specs.LockPath.{IsWay, Path, goes_with, is_same_lock, way_to}

-- an operation with the path as it ends now, of which it holds the first places
pub record Holding : Type 0 where
  pub op : ℕ
  pub path : Path
  pub held : ℕ

abbrev pub Holdings : Type 0
Holdings = List Holding

abbrev pub next_place : Holding → Option (LockName × Mode)
next_place h = slice_get h.path h.held

abbrev pub conflicts : LockName × Mode → LockName × Mode → Bool
conflicts wanted held = is_same_lock held.0 wanted.0 && not (goes_with held.1 wanted.1)

-- it holds on the lock name a mode that doesn't go with the wanted one
abbrev pub bars : LockName × Mode → Holding → Bool
bars wanted h = list_any (conflicts wanted) (take h.held h.path)

abbrev pub bars_other : ℕ → LockName × Mode → Holding → Bool
bars_other op wanted h = not (h.op == op) && bars wanted h

abbrev pub barring : Holdings → ℕ → LockName × Mode → Option Holding
barring table op wanted = find (bars_other op wanted) table

-- it has its whole path, or can take the next place
abbrev pub may_go : Holdings → Holding → Bool
may_go table h = option_map_or (λ place. is_none (barring table h.op place)) (next_place h) true

-- who bars holds more places, so it has its whole path, or next wants a deeper place
abbrev pub BarringIsDeeper : Type 0
BarringIsDeeper = (table : Holdings) (h by : Holding) (place : LockName × Mode) → IsWay h.path → IsWay by.path
    → next_place h ≡ Some place → bars place by ≡ true → h.held < by.held

-- where anybody holds or waits, somebody has its whole path or can take the next place
abbrev pub NoStandstill : Type 0
NoStandstill = (table : Holdings) (h : Holding) → Contains table h
    → ((other : Holding) → Contains table other → IsWay other.path)
    → (g : Holding) × Contains table g × (may_go table g ≡ true)

-- ways are so
abbrev pub PathsAreWays : Type 0
PathsAreWays = (wanted : Wanted) → IsWay (way_to wanted)
