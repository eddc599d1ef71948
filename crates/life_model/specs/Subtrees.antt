-- The objects at a name and below it: X.720, section 6, containment.
use Rattle.std.specs.Prelude.{List, Bool, ◌&&◌, filter, not, reverse}
use Rattle.std.specs.List.{list_any, starts_with}
use Rattle.term_model.specs.declared.name.Rdn.{Rdn}
use Rattle.term_model.specs.declared.objects.NamedObject.{NamedObject}
use Rattle.term_model.specs.Comparing.{is_same_name, is_same_rdn}

-- the name is the base's own or stands below it
abbrev pub is_in_subtree : List Rdn → List Rdn → Bool
is_in_subtree base name = starts_with is_same_rdn name base

abbrev pub stands_in_subtree : List Rdn → NamedObject → Bool
stands_in_subtree base entry = is_in_subtree base entry.name

-- it stands below the base
abbrev pub stands_below : List Rdn → NamedObject → Bool
stands_below base entry = is_in_subtree base entry.name && not (is_same_name entry.name base)

-- the base contains other objects
abbrev pub has_contained : List Rdn → List NamedObject → Bool
has_contained base objects = list_any (stands_below base) objects

-- the objects at the base and below it, in the reverse order of names: each before its superior
abbrev pub subtree_backwards : List Rdn → List NamedObject → List NamedObject
subtree_backwards base objects = reverse (filter (stands_in_subtree base) objects)

-- the objects that are there without them
abbrev pub without_subtree : List Rdn → List NamedObject → List NamedObject
without_subtree base = filter (λ (entry : NamedObject). not (stands_in_subtree base entry))
