-- A path that was entered whole, and where it ends by the table.
use Rattle.std.specs.Prelude.{◌≡◌, ◌<◌, ◌&&◌, ℕ, List, [], ◌∷◌, ◌++◌, Bool, true, false, Option, None, Some}
use Rattle.std.specs.Prelude.{length, suc, slice_get, take, if◌then◌else◌}
use Rattle.std.specs.Option.{option_map}
use Rattle.term_model.specs.declared.name.Rdn.{Rdn}
use Rattle.lock_model.specs.declared.lock_name.LockName.{LockName}
use Rattle.lock_model.specs.declared.lock_name.Mode.{Mode}
use Rattle.lock_model.specs.declared.lock_name.Part.{Part}
use Rattle.lock_model.specs.declared.path.Wanted.{Wanted}
use Rattle.lock_model.specs.LockPath.{Path, at_the_unit, begins, way_to}
use Rattle.lock_model.specs.Units.{ended_at}
use Rattle.lock_model.specs.declared.lock_name.Part.TheVariants as extents
use Rattle.lock_model.specs.declared.lock_name.Mode.TheVariants as modes

abbrev pub is_tree : Part → Bool
is_tree extents.Tree = true
is_tree extents.Own = false

abbrev pub is_log_place : (List Rdn → Bool) → LockName × Mode → Bool
is_log_place is_log place = is_tree place.0.part && is_log place.0.name

abbrev pub last_mode : Path → Mode
last_mode [] = modes.IS
last_mode (place ∷ []) = place.1
last_mode (place ∷ next ∷ others) = last_mode (next ∷ others)

abbrev pub with_mode : Mode → Option (LockName × Mode) → Path
with_mode mode None = []
with_mode mode (Some place) = (place.0, mode) ∷ []

-- the path as it ends at a place, with the mode of the last place that was entered
abbrev pub ended : Path → Option ℕ → Path
ended path None = path
ended path (Some at) = take at path ++ with_mode (last_mode path) (slice_get path at)

-- the first place that passes
abbrev pub first_place : (LockName × Mode → Bool) → Path → Option ℕ
first_place test [] = None
first_place test (place ∷ others) = if test place then Some 0 else option_map (λ n. suc n) (first_place test others)

-- ending the whole way at its first log is the way of the map
abbrev pub EndAtFirstLog : Type 0
EndAtFirstLog = (is_log : List Rdn → Bool) (whole : Wanted)
    → ended (way_to whole) (first_place (is_log_place is_log) (way_to whole))
    ≡ way_to (record { unit = ended_at is_log whole.unit; writing = whole.writing })

-- no log stands above the unit
abbrev pub NoLogAbove : Type 0
NoLogAbove = (is_log : List Rdn → Bool) (unit : LockName) (name : List Rdn)
    → begins name (ended_at is_log unit).name ≡ true → length name < length (ended_at is_log unit).name
    → is_log name ≡ false

-- what one look at the next name tells of the path on the map, where no name before it is a log's
pub record NextPlace (is_log : Bool) (full : Mode) (place : LockName × Mode) (whole path : Path)
    (held : ℕ) : Type 0 where
  pub next : slice_get path held ≡ Some (if is_log then (place.0, full) else place)
  pub last : is_log ≡ true → length path ≡ suc held
  pub whole_last : is_log ≡ false → length whole ≡ suc held → length path ≡ suc held
  pub further : is_log ≡ false → suc held < length whole → suc held < length path

abbrev pub OneLook : Type 0
OneLook = (is_log : List Rdn → Bool) (whole : Wanted) (held : ℕ) (place : LockName × Mode)
    → ((i : ℕ) (p : LockName × Mode) → i < held → slice_get (way_to whole) i ≡ Some p → is_log_place is_log p ≡ false)
    → slice_get (way_to whole) held ≡ Some place
    → NextPlace (is_log_place is_log place) (at_the_unit whole.writing) place (way_to whole)
    (way_to (record { unit = ended_at is_log whole.unit; writing = whole.writing })) held
