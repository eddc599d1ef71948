-- Which names an operation selects: X.711, section 7.5. The list by which operations are defined has the names in scope
-- whose objects pass the filter, and no others, each once and by the order of names.
use Rattle.std.specs.Prelude.{◌↔◌, Contains, List}
use Rattle.std.specs.List.Sorted.{IsStrictlySortedBy}
use Rattle.term_model.specs.declared.name.Rdn.{Rdn}
use Rattle.term_model.specs.declared.objects.NamedObject.{NamedObject}
use Rattle.term_model.specs.declared.schema.Set.{Set}
use Rattle.term_model.specs.declared.scope.Scope.{Scope}
use Rattle.term_model.specs.FilterTrees.{FilterTree}
use Rattle.term_model.specs.NameOrder.{name_cmp}
use Rattle.term_model.specs.NamedObjects.{IsByName}
use Rattle.term_model.specs.Selection.{IsSelected, selected}

-- the list has the names of the set, and no others
abbrev pub ListHasSelected : Type 0
ListHasSelected = (schema : Set) (objects : List NamedObject) (base : List Rdn) (scope : Scope) (passed : FilterTree)
    (name : List Rdn) → IsByName objects
    → Contains (selected schema objects base scope passed) name ↔ IsSelected schema objects base scope passed name

-- its names rise, each once
abbrev pub SelectedRise : Type 0
SelectedRise = (schema : Set) (objects : List NamedObject) (base : List Rdn) (scope : Scope) (passed : FilterTree)
    → IsByName objects → IsStrictlySortedBy name_cmp (selected schema objects base scope passed)
