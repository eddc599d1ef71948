-- The objects of a list of shared entries, and of a list that may be missing.
use Rattle.std.specs.Prelude.{List, [], map, Option, None, Some}
use Rattle.std.specs.Arc.{arc_value}
use Rattle.std.specs.declared.alloc.Global.{Global}
use Rattle.std.specs.declared.sync.Arc.{Arc}
use Rattle.std.specs.declared.vec.Vec.{Vec}
use Rattle.term_model.specs.declared.objects.NamedObject.{NamedObject}

abbrev pub objects_in : List (Arc NamedObject Global) → List NamedObject
objects_in entries = map (λ (entry : Arc NamedObject Global). arc_value entry) entries

-- no list is no objects
abbrev pub objects_of : Option (Arc (Vec (Arc NamedObject Global) Global) Global) → List NamedObject
objects_of None = []
objects_of (Some list) = objects_in (arc_value list).items
