-- The objects of the system: a finite map from names to objects, as the list of its entries by rising name, each name
-- once. So equal maps are equal lists. X.720, section 5; the order is this project's own.
use Rattle.std.specs.Prelude.{ℕ, Bool, false, List, [], ◌∷◌, Option, filter, find, map, not, slice_get}
use Rattle.std.specs.List.Sorted.{IsStrictlySortedBy}
use Rattle.std.specs.Option.{option_map, option_map_or}
use Rattle.std.specs.Ordering.{is_eq}
use Rattle.std.specs.declared.cmp.Ordering.{Ordering}
use Rattle.std.specs.declared.cmp.Ordering.TheVariants.{Less, Equal, Greater}
use Rattle.term_model.specs.declared.name.Rdn.{Rdn}
use Rattle.term_model.specs.declared.object.Object.{Object}
use Rattle.term_model.specs.declared.objects.NamedObject.{NamedObject}
use Rattle.term_model.specs.Comparing.{is_same_name}
use Rattle.term_model.specs.NameOrder.{name_cmp}

abbrev pub names : List NamedObject → List (List Rdn)
names objects = map (λ (entry : NamedObject). entry.name) objects

-- the names rise, each once
abbrev pub IsByName : List NamedObject → Type 0
IsByName objects = IsStrictlySortedBy name_cmp (names objects)

-- the object with this name
abbrev pub object_at : List NamedObject → List Rdn → Option Object
object_at objects name =
    option_map (λ (entry : NamedObject). entry.object)
    (find (λ (entry : NamedObject). is_same_name entry.name name) objects)

-- there is an entry at an index, and has this name
abbrev pub is_named_at : List NamedObject → ℕ → List Rdn → Bool
is_named_at objects at name =
    option_map_or (λ (entry : NamedObject). is_eq (name_cmp name entry.name)) (slice_get objects at) false

-- an entry in front of the first of others, in its place, or among those behind it
abbrev pub stored_by : Ordering → NamedObject → NamedObject → List NamedObject → List NamedObject → List NamedObject
stored_by Less entry first others behind = entry ∷ first ∷ others
stored_by Equal entry first others behind = entry ∷ others
stored_by Greater entry first others behind = first ∷ behind

-- the map with an object under its name, in place of the one that had the name
abbrev pub stored : NamedObject → List NamedObject → List NamedObject
stored entry [] = entry ∷ []
stored entry (first ∷ others) = stored_by (name_cmp entry.name first.name) entry first others (stored entry others)

-- the map without the object of a name
abbrev pub removed : List Rdn → List NamedObject → List NamedObject
removed name objects = filter (λ (entry : NamedObject). not (is_same_name entry.name name)) objects
