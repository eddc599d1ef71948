-- Which objects an operation acts on: X.711, section 7.5, types Scope and CMISFilter.
use Rattle.std.specs.Prelude.{◌≡◌, ◌&&◌, List, Bool, Some, filter}
use Rattle.term_model.specs.declared.name.Rdn.{Rdn}
use Rattle.term_model.specs.declared.object.Object.{Object}
use Rattle.term_model.specs.declared.objects.NamedObject.{NamedObject}
use Rattle.term_model.specs.declared.schema.Set.{Set}
use Rattle.term_model.specs.declared.scope.Scope.{Scope}
use Rattle.term_model.specs.FilterTests.{is_true_of}
use Rattle.term_model.specs.FilterTrees.{FilterTree}
use Rattle.term_model.specs.FilterTruth.{IsTrueOf}
use Rattle.term_model.specs.NamedObjects.{names, object_at}
use Rattle.term_model.specs.Scope.{IsInScope, is_within}

-- the names in scope whose objects pass the filter, as a set
abbrev pub IsSelected : Set → List NamedObject → List Rdn → Scope → FilterTree → List Rdn → Type 0
IsSelected schema objects base scope passed name =
    IsInScope objects base scope name
    × ((object : Object) × (object_at objects name ≡ Some object) × IsTrueOf schema.attributes object.attrs passed)

abbrev pub is_selected : Set → List Rdn → Scope → FilterTree → NamedObject → Bool
is_selected schema base scope passed entry =
    is_within base scope entry.name && is_true_of schema.attributes entry.object.attrs passed

-- the same by the order of names
abbrev pub selected : Set → List NamedObject → List Rdn → Scope → FilterTree → List (List Rdn)
selected schema objects base scope passed = names (filter (is_selected schema base scope passed) objects)
