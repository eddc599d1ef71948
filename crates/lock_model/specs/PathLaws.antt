-- Laws of paths whose modes go together, and of what the operations that hold them do. docs/PROFILE.md, section 20.
use Rattle.std.specs.Prelude.{◌≡◌, ◌<◌, ℕ, List, true, false, Contains, length, take}
use Rattle.term_model.specs.declared.name.Rdn.{Rdn}
use Rattle.term_model.specs.declared.objects.NamedObject.{NamedObject}
use Rattle.term_model.specs.declared.schema.Set.{Set}
use Rattle.term_model.specs.NamedObjects.{IsByName}
use Rattle.lock_model.specs.declared.lock_name.LockName.{LockName}
use Rattle.lock_model.specs.declared.lock_name.Mode.{Mode}
use Rattle.lock_model.specs.declared.lock_name.Part.TheVariants as extents
use Rattle.lock_model.specs.declared.path.Wanted.{Wanted}
use Rattle.lock_model.specs.LockPath.{Path, begins, goes_with, is_inside, way_to}
use Rattle.lock_model.specs.Units.{IsPlain, way_on}
use Rattle.lock_model.specs.ReadSet.{read_set}
use Rattle.lock_model.specs.OperationLaws.{Framed}

-- modes on one lock name go together
abbrev pub GoTogether : Path → Path → Type 0
GoTogether p q = (lock : LockName) (m n : Mode) → Contains p (lock, m) → Contains q (lock, n) → goes_with m n ≡ true

-- what is in the unit of what writes is outside another's, and is above it only as an object alone
abbrev pub DisjointUnits : Type 0
DisjointUnits = (one other : Wanted) (name : List Rdn) → one.writing ≡ true → GoTogether (way_to one) (way_to other)
    → is_inside one.unit name ≡ true
    → (is_inside other.unit name ≡ false) × (begins name other.unit.name ≡ true → one.unit.part ≡ extents.Own)

-- the read set of an operation with its whole path stays when another one with its whole path changes the map in its
-- frame
abbrev pub ReadSetStays : Type 0
ReadSetStays = (schema : Set) (one other : Wanted) (before after : List NamedObject)
    → GoTogether (way_to one) (way_to other) → IsPlain schema one
    → IsByName before → Framed one before after
    → read_set schema other.unit after ≡ read_set schema other.unit before

-- the places that a waiting operation holds stay those with which its path begins, and it still waits
abbrev pub WaitingStays : Type 0
WaitingStays = (schema : Set) (one whole : Wanted) (before after : List NamedObject) (held : ℕ)
    → GoTogether (way_to one) (take held (way_on schema before whole)) → Framed one before after
    → held < length (way_on schema before whole)
    → (take held (way_on schema after whole) ≡ take held (way_on schema before whole))
    × (held < length (way_on schema after whole))
