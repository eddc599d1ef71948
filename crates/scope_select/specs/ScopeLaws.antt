-- The list of the names in scope has the names in scope, and no others.
use Rattle.std.specs.Prelude.{◌≡◌, ◌↔◌, true, Contains, List}
use Rattle.term_model.specs.declared.name.Rdn.{Rdn}
use Rattle.term_model.specs.declared.objects.NamedObject.{NamedObject}
use Rattle.term_model.specs.declared.scope.Scope.{Scope}
use Rattle.term_model.specs.Scope.{IsInScope, IsWithin, is_within, names_in_scope}

-- the test of a name says whether a scope reaches it
abbrev pub TestTellsWithin : Type 0
TestTellsWithin = (base : List Rdn) (scope : Scope) (name : List Rdn)
    → (is_within base scope name ≡ true) ↔ IsWithin base scope name

abbrev pub ListHasNames : Type 0
ListHasNames = (objects : List NamedObject) (base : List Rdn) (scope : Scope) (name : List Rdn)
    → Contains (names_in_scope objects base scope) name ↔ IsInScope objects base scope name
