-- The place of a name among objects by rising name, how many of them stand in front of it; and the place behind those
-- that it begins.
use Rattle.std.specs.Prelude.{◌≡◌, ℕ, ◌≤◌, ◌||◌, Bool, false, if◌then◌else◌, List, drop, length, take, true}
use Rattle.std.specs.List.{AllByRecursion}
use Rattle.std.specs.Ordering.{is_gt}
use Rattle.term_model.specs.declared.name.Rdn.{Rdn}
use Rattle.term_model.specs.declared.objects.NamedObject.{NamedObject}
use Rattle.term_model.specs.NameOrder.{name_cmp}
use Rattle.scope_select.specs.Ranges.{begins}

-- the test holds of the names of all of these
abbrev pub AllPass : (List Rdn → Bool) → List NamedObject → Type 0
AllPass test objects = AllByRecursion (λ (entry : NamedObject). test entry.name ≡ true) objects

-- the test holds of none of theirs
abbrev pub NonePass : (List Rdn → Bool) → List NamedObject → Type 0
NonePass test objects = AllByRecursion (λ (entry : NamedObject). test entry.name ≡ false) objects

-- the test holds of the objects in front of a place, and of none behind it
pub record IsCut (test : List Rdn → Bool) (objects : List NamedObject) (at : ℕ) : Type 0 where
  pub within : at ≤ length objects
  pub front : AllPass test (take at objects)
  pub behind : NonePass test (drop at objects)

-- the name is greater than another one; with those below it also where it begins the other one
abbrev pub is_past : Bool → List Rdn → List Rdn → Bool
is_past below name other =
    if below then (is_gt (name_cmp name other) || begins name other) else is_gt (name_cmp name other)

-- the name is greater than the names of all of these
abbrev pub AllInFront : List Rdn → List NamedObject → Type 0
AllInFront name objects = AllPass (is_past false name) objects

-- the name is greater than none of theirs
abbrev pub NoneInFront : List Rdn → List NamedObject → Type 0
NoneInFront name objects = NonePass (is_past false name) objects

abbrev pub IsPlace : List NamedObject → List Rdn → ℕ → Type 0
IsPlace objects name at = IsCut (is_past false name) objects at
