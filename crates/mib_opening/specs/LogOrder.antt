-- Logs that are counted one after the other, the last one by the order of names first.
use Rattle.std.specs.Prelude.{ℕ, zero, suc, Bool, List, [], ◌∷◌, filter, if◌then◌else◌}
use Rattle.std.specs.Option.{option_map_or}
use Rattle.term_model.specs.declared.name.Rdn.{Rdn}
use Rattle.term_model.specs.declared.object.Object.{Object}
use Rattle.term_model.specs.declared.objects.NamedObject.{NamedObject}
use Rattle.term_model.specs.declared.schema.Set.{Set}
use Rattle.term_model.specs.BoundClasses.{is_bound_log}
use Rattle.term_model.specs.LogRecords.{counted, counted_log, records_of}
use Rattle.term_model.specs.NamedObjects.{names, object_at, stored}

abbrev pub is_log : Set → NamedObject → Bool
is_log schema entry = is_bound_log schema entry.object.class

-- the names of the bound logs
abbrev pub log_names : Set → List NamedObject → List (List Rdn)
log_names schema objects = names (filter (is_log schema) objects)

-- the map in which the object of a name tells of its records
abbrev pub recounted : Set → List Rdn → List NamedObject → List NamedObject
recounted schema name objects =
    option_map_or
    (λ (object : Object).
    stored (record { name = name; object = counted_log schema (records_of schema name objects) object }) objects)
    (object_at objects name) objects

-- the map in which all bound logs but so many first ones tell of their records
abbrev pub counted_behind : Set → ℕ → List NamedObject → List NamedObject
counted_behind schema zero objects = counted schema objects
counted_behind schema (suc n) [] = []
counted_behind schema (suc n) (entry ∷ others) =
    if is_log schema entry then entry ∷ counted_behind schema n others
    else entry ∷ counted_behind schema (suc n) others
