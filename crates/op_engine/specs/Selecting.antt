-- The objects that pass a filter, and that stand in a map: X.711, section 7.5, type CMISFilter.
use Rattle.std.specs.Prelude.{◌≡◌, List, [], Bool, Some, filter}
use Rattle.std.specs.List.{AllByRecursion}
use Rattle.term_model.specs.declared.filter.Asked.{Asked}
use Rattle.term_model.specs.declared.filter.Asked.TheVariants as filters
use Rattle.term_model.specs.declared.objects.NamedObject.{NamedObject}
use Rattle.term_model.specs.declared.schema.Set.{Set}
use Rattle.term_model.specs.FilterTests.{is_true_of}
use Rattle.term_model.specs.FilterTrees.{FilterTree}
use Rattle.term_model.specs.NamedObjects.{object_at}

-- an object passes the filter
abbrev pub passes : Set → FilterTree → NamedObject → Bool
passes schema passed entry = is_true_of schema.attributes entry.object.attrs passed

-- those of these objects that pass the filter
abbrev pub passing_by : Set → Asked → List NamedObject → List NamedObject
passing_by schema (filters.Good passed) entries = filter (passes schema passed) entries
passing_by schema (filters.Bad octets) entries = []
passing_by schema filters.Large entries = []

-- an object stands in the map under its name
abbrev pub IsThere : List NamedObject → NamedObject → Type 0
IsThere objects entry = object_at objects entry.name ≡ Some entry.object

abbrev pub AreThere : List NamedObject → List NamedObject → Type 0
AreThere objects entries = AllByRecursion (IsThere objects) entries
