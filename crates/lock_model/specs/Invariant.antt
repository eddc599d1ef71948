-- What holds of the operations that are not ended, of what they hold and of the maps at their grants.
-- docs/PROFILE.md, section 20.
use Rattle.std.specs.Prelude.{◌≡◌, ◌≢◌, ◌<◌, ◌⊎◌, ◌+◌, ℕ, List, Contains, Option, None, Some, length, slice_get, take}
use Rattle.std.specs.Prelude.{true}
use Rattle.term_model.specs.declared.objects.NamedObject.{NamedObject}
use Rattle.term_model.specs.declared.schema.Set.{Set}
use Rattle.term_model.specs.NamedObjects.{IsByName}
use Rattle.operation_model.specs.WholeOperation.{AreChanges, Changed, Outcome}
use Rattle.lock_model.specs.declared.lock_name.LockName.{LockName}
use Rattle.lock_model.specs.declared.lock_name.Mode.{Mode}
use Rattle.lock_model.specs.declared.path.Wanted.{Wanted}
use Rattle.lock_model.specs.LockPath.{Path, goes_with}
use Rattle.lock_model.specs.Units.{taken_on, way_on}
use Rattle.lock_model.specs.ReadSet.{read_set}
use Rattle.lock_model.specs.OperationLaws.{AreShort, KeepsToUnit}
use Rattle.lock_model.specs.PathLaws.{GoTogether}

-- an operation that isn't ended: its number, its unit and purpose as it was entered, how many places of its path it
-- holds, and the place of its Granted entry
pub record Row : Type 0 where
  pub op : ℕ
  pub whole : Wanted
  pub held : ℕ
  pub granted : Option ℕ

abbrev pub path_of : Set → List NamedObject → Row → Path
path_of schema objects row = way_on schema objects row.whole

abbrev pub held_of : Set → List NamedObject → Row → Path
held_of schema objects row = take row.held (path_of schema objects row)

-- a granted one has its whole path, and the read set of the map after its Granted entry is that of the map as it is
pub record IsGranted (schema : Set) (past : ℕ → List NamedObject) (now : List NamedObject) (row : Row) (place : ℕ)
    : Type 0 where
  pub whole : row.held ≡ length (path_of schema now row)
  pub same : read_set schema (taken_on schema now row.whole).unit (past place)
      ≡ read_set schema (taken_on schema now row.whole).unit now

-- past tells the map after the entry at a place of the journal
pub record AreSound (schema : Set) (past : ℕ → List NamedObject) (now : List NamedObject) (rows : List Row)
    : Type 0 where
  pub rises : IsByName now
  pub short : AreShort now
  pub together : (a b : Row) → Contains rows a → Contains rows b → a.op ≢ b.op
      → GoTogether (held_of schema now a) (held_of schema now b)
  pub waiting : (row : Row) → Contains rows row → row.granted ≡ None → row.held < length (path_of schema now row)
  pub granted : (row : Row) (place : ℕ) → Contains rows row → row.granted ≡ Some place
      → IsGranted schema past now row place

-- the commit of a granted operation keeps it, of the others
abbrev pub CommitKeepsSound : Type 0
CommitKeepsSound = (schema : Set) (past : ℕ → List NamedObject) (now : List NamedObject) (rows left : List Row)
    (row : Row) (place : ℕ) (does : List NamedObject → Outcome)
    → AreSound schema past now rows → Contains rows row → row.granted ≡ Some place
    → KeepsToUnit schema row.whole does → AreShort (does now).objects
    → ((other : Row) → Contains left other → Contains rows other × (other.op ≢ row.op))
    → AreSound schema past (does now).objects left

-- and what was planned on the map at the grant is what it does
abbrev pub CommitIsPlanned : Type 0
CommitIsPlanned = (schema : Set) (past : ℕ → List NamedObject) (now : List NamedObject) (rows : List Row)
    (row : Row) (place : ℕ) (does : List NamedObject → Outcome) (changes : Changed)
    → AreSound schema past now rows → Contains rows row → row.granted ≡ Some place
    → KeepsToUnit schema row.whole does → IsByName (past place) → AreShort (past place)
    → AreChanges (past place) (does (past place)).objects changes
    → AreChanges now (does now).objects changes
    × ((does now).replies ≡ (does (past place)).replies) × ((does now).sources ≡ (does (past place)).sources)

-- the row with one place more
abbrev pub taken_row : Row → Option ℕ → Row
taken_row row granted = record row { held = row.held + 1; granted = granted }

-- it still waits, or has its whole path with an entry at a place after which the map is as it is
abbrev pub IsGrant : (ℕ → List NamedObject) → List NamedObject → ℕ → ℕ → Option ℕ → Type 0
IsGrant past now held places None = held < places
IsGrant past now held places (Some place) = (held ≡ places) × (past place ≡ now)

-- the next place is granted where no other one holds a mode there that doesn't go with it
abbrev pub GrantKeepsSound : Type 0
GrantKeepsSound = (schema : Set) (past : ℕ → List NamedObject) (now : List NamedObject) (rows left : List Row)
    (row : Row) (next : LockName × Mode) (granted : Option ℕ)
    → AreSound schema past now rows → Contains rows row
    → slice_get (path_of schema now row) row.held ≡ Some next
    → ((other : Row) → Contains rows other → other.op ≢ row.op → (mode : Mode)
    → Contains (held_of schema now other) (next.0, mode) → goes_with mode next.1 ≡ true)
    → IsGrant past now (row.held + 1) (length (path_of schema now row)) granted
    → ((other : Row) → Contains left other
    → (other ≡ taken_row row granted) ⊎ (Contains rows other × (other.op ≢ row.op)))
    → AreSound schema past now left

-- an operation that begins holds nothing, one that ends is gone, and an entry that isn't a commit leaves the map
abbrev pub OthersKeepSound : Type 0
OthersKeepSound = (schema : Set) (past later : ℕ → List NamedObject) (now : List NamedObject) (rows left : List Row)
    → AreSound schema past now rows
    → ((row : Row) (place : ℕ) → Contains rows row → row.granted ≡ Some place → later place ≡ past place)
    → ((other : Row) → Contains left other
    → Contains rows other ⊎ ((other.held ≡ 0) × (other.granted ≡ None) × (0 < length (path_of schema now other))))
    → AreSound schema later now left
