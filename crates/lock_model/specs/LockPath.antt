-- Lock names, modes, and the path to a unit: a lock stands on a name, whether an object has it or not.
-- docs/PROFILE.md, section 20.
use Rattle.std.specs.Prelude.{◌≡◌, ℕ, ◌+◌, ◌&&◌, List, [], ◌∷◌, ◌++◌, Bool, true, false, Some, length, slice_get}
use Rattle.term_model.specs.declared.name.Rdn.{Rdn}
use Rattle.term_model.specs.Comparing.{is_same_name, is_same_rdn}
use Rattle.lock_model.specs.declared.lock_name.LockName.{LockName}
use Rattle.lock_model.specs.declared.lock_name.Mode.{Mode}
use Rattle.lock_model.specs.declared.lock_name.Mode.TheVariants as modes
use Rattle.lock_model.specs.declared.lock_name.Part.{Part}
use Rattle.lock_model.specs.declared.lock_name.Part.TheVariants as extents
use Rattle.lock_model.specs.declared.path.Wanted.{Wanted}

-- IS goes with IS, IX, S; IX with IS, IX; S with IS, S; X with none
abbrev pub goes_with : Mode → Mode → Bool
goes_with modes.IS modes.IS = true
goes_with modes.IS modes.IX = true
goes_with modes.IS modes.S = true
goes_with modes.IS modes.X = false
goes_with modes.IX modes.IS = true
goes_with modes.IX modes.IX = true
goes_with modes.IX modes.S = false
goes_with modes.IX modes.X = false
goes_with modes.S modes.IS = true
goes_with modes.S modes.IX = false
goes_with modes.S modes.S = true
goes_with modes.S modes.X = false
goes_with modes.X other = false

abbrev pub is_same_part : Part → Part → Bool
is_same_part extents.Tree extents.Tree = true
is_same_part extents.Tree extents.Own = false
is_same_part extents.Own extents.Tree = false
is_same_part extents.Own extents.Own = true

abbrev pub is_same_lock : LockName → LockName → Bool
is_same_lock a b = is_same_name a.name b.name && is_same_part a.part b.part

-- what reads takes the intention to read on the path, and reads its unit; what writes accordingly
abbrev pub on_the_way : Bool → Mode
on_the_way false = modes.IS
on_the_way true = modes.IX

abbrev pub at_the_unit : Bool → Mode
at_the_unit false = modes.S
at_the_unit true = modes.X

-- the places of a path, from the root's Tree on
abbrev pub Path : Type 0
Path = List (LockName × Mode)

abbrev pub tree : List Rdn → LockName
tree name = record { name = name; part = extents.Tree }

abbrev pub own : List Rdn → LockName
own name = record { name = name; part = extents.Own }

-- the last places: of a node lock the Tree of its name stands before it
abbrev pub ending : List Rdn → Part → Bool → Path
ending name extents.Tree writing = (tree name, at_the_unit writing) ∷ []
ending name extents.Own writing = (tree name, on_the_way writing) ∷ (own name, at_the_unit writing) ∷ []

-- front is the name so far, and the parts of the unit's name behind it follow
abbrev pub way_from : List Rdn → List Rdn → Part → Bool → Path
way_from front [] part writing = ending front part writing
way_from front (first ∷ others) part writing =
    (tree front, on_the_way writing) ∷ way_from (front ++ first ∷ []) others part writing

-- the path to a unit: the Trees of all proper superiors of its name, and the unit
abbrev pub way_to : Wanted → Path
way_to wanted = way_from [] wanted.unit.name wanted.unit.part wanted.writing

-- how deep a lock name stands: a node lock just below the Tree of its name
abbrev pub depth_of : Part → ℕ → ℕ
depth_of extents.Tree parts = parts
depth_of extents.Own parts = parts + 1

abbrev pub depth : LockName → ℕ
depth lock = depth_of lock.part (length lock.name)

-- each place of a path stands at the depth of its lock name
abbrev pub IsWay : Path → Type 0
IsWay path = (i : ℕ) (place : LockName × Mode) → slice_get path i ≡ Some place → i ≡ depth place.0

-- a name that begins with another one
abbrev pub begins : List Rdn → List Rdn → Bool
begins [] name = true
begins (first ∷ others) [] = false
begins (first ∷ others) (part ∷ parts) = is_same_rdn first part && begins others parts

-- the name is the unit's, or is below that of a Tree
abbrev pub inside_of : Part → List Rdn → List Rdn → Bool
inside_of extents.Tree at name = begins at name
inside_of extents.Own at name = is_same_name at name

abbrev pub is_inside : LockName → List Rdn → Bool
is_inside unit name = inside_of unit.part unit.name name
