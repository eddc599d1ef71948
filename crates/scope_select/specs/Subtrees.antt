-- The objects at and below a base object with their names: X.711, section 7.5, type Scope; docs/PROFILE.md, section 4.
use Rattle.std.specs.Borrow.{Bor}
use Rattle.std.specs.List.{AllByRecursion}
use Rattle.std.specs.Prelude.{◌≡◌, ℕ, ◌+◌, ◌<◌, ◌≤◌, true, List, Option, filter, find, length, map}
use Rattle.term_model.specs.declared.name.Rdn.{Rdn}
use Rattle.term_model.specs.declared.objects.NamedObject.{NamedObject}
use Rattle.term_model.specs.declared.scope.Scope.{Scope}
use Rattle.term_model.specs.Comparing.{is_same_name}
use Rattle.term_model.specs.Scope.{is_within}
use Rattle.scope_select.specs.Ranges.{begins}

-- what references refer to
abbrev pub referred : List (Bor NamedObject) → List NamedObject
referred entries = map (λ entry. entry.now) entries

-- the object with this name, with its name
abbrev pub entry_of : List NamedObject → List Rdn → Option NamedObject
entry_of objects name = find (λ (entry : NamedObject). is_same_name entry.name name) objects

-- the objects whose names the base begins, by the order of names
abbrev pub subtree_of : List NamedObject → List Rdn → List NamedObject
subtree_of objects base = filter (λ (entry : NamedObject). begins base entry.name) objects

-- the base begins the names of all of these
abbrev pub AllBegun : List Rdn → List NamedObject → Type 0
AllBegun base entries = AllByRecursion (λ (entry : NamedObject). begins base entry.name ≡ true) entries

-- the objects in scope by the order of names
abbrev pub entries_in_scope : List NamedObject → List Rdn → Scope → List NamedObject
entries_in_scope objects base scope = filter (λ (entry : NamedObject). is_within base scope entry.name) objects

-- the visits before and after one look for a subtree: one at least where there is an object, and up to 100,000 objects
-- at most 128 beside one for each object of the subtree
pub record IsOneSubtree (objects : List NamedObject) (base : List Rdn) (before after : ℕ) : Type 0 where
  pub rises : before ≤ after
  pub some : 0 < length objects → before < after
  pub few : length objects ≤ 100000 → after ≤ before + 128 + length (subtree_of objects base)

-- the visits before and after a look for the objects in scope, in a map of up to 100,000 objects
abbrev pub IsOneLook : List NamedObject → List Rdn → ℕ → ℕ → Type 0
IsOneLook objects base before after =
    length objects ≤ 100000 → after ≤ before + 128 + length (subtree_of objects base)
