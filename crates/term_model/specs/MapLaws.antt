-- Laws of the map from names to objects: X.720, section 5.
use Rattle.std.specs.Prelude.{◌≡◌, ◌≢◌, false, Contains, List, None, Some}
use Rattle.std.specs.declared.cmp.Ordering.TheVariants.{Less}
use Rattle.term_model.specs.declared.name.Rdn.{Rdn}
use Rattle.term_model.specs.declared.objects.NamedObject.{NamedObject}
use Rattle.term_model.specs.Comparing.{is_same_name}
use Rattle.term_model.specs.Following.{IsLeastGreater, entry_after}
use Rattle.term_model.specs.NameOrder.{name_cmp}
use Rattle.term_model.specs.NamedObjects.{IsByName, object_at, removed, stored}

-- under its name stands the object that was stored last
abbrev pub StoredIsFound : Type 0
StoredIsFound = (entry : NamedObject) (objects : List NamedObject)
    → object_at (stored entry objects) entry.name ≡ Some entry.object

-- under each other name stands what stood there
abbrev pub OthersStay : Type 0
OthersStay = (entry : NamedObject) (objects : List NamedObject) (name : List Rdn)
    → is_same_name entry.name name ≡ false → object_at (stored entry objects) name ≡ object_at objects name

-- the names rise as before
abbrev pub NamesRise : Type 0
NamesRise = (entry : NamedObject) (objects : List NamedObject) → IsByName objects → IsByName (stored entry objects)

-- maps that have the same object under each name are the same list
abbrev pub EqualMaps : Type 0
EqualMaps = (xs ys : List NamedObject) → IsByName xs → IsByName ys
    → ((name : List Rdn) → object_at xs name ≡ object_at ys name) → xs ≡ ys

-- under a name that was taken out stands nothing
abbrev pub RemovedIsGone : Type 0
RemovedIsGone = (name : List Rdn) (objects : List NamedObject) → object_at (removed name objects) name ≡ None

-- and under each other name what stood there
abbrev pub OthersAreLeft : Type 0
OthersAreLeft = (name : List Rdn) (objects : List NamedObject) (other : List Rdn)
    → is_same_name name other ≡ false → object_at (removed name objects) other ≡ object_at objects other

-- the object that follows a name has the least greater name
abbrev pub NextIsLeast : Type 0
NextIsLeast = (objects : List NamedObject) (name : List Rdn) (entry : NamedObject) → IsByName objects
    → entry_after objects name ≡ Some entry → IsLeastGreater objects name entry

-- and where none follows, no name is greater
abbrev pub NoneIsGreater : Type 0
NoneIsGreater = (objects : List NamedObject) (name : List Rdn) (other : NamedObject)
    → entry_after objects name ≡ None → Contains objects other → name_cmp name other.name ≢ Less
