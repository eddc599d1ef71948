-- Names behind another one, in the order of names; docs/PROFILE.md, section 4.
use Rattle.std.specs.Prelude.{false, suc, ◌≡◌, ◌≤◌, ◌+◌, ◌*◌, is_some, length, ℕ, Bool, List, MatchOption, None, Option}
use Rattle.std.specs.Prelude.{Some, filter, find, int_le, pos, true}
use Rattle.std.specs.Ordering.{int_eq, is_lt}
use Rattle.term_model.specs.declared.name.Rdn.{Rdn}
use Rattle.term_model.specs.declared.objects.NamedObject.{NamedObject}
use Rattle.term_model.specs.declared.scope.Scope.{Scope}
use Rattle.term_model.specs.declared.scope.Scope.TheVariants.{Plain, Level, Upto}
use Rattle.term_model.specs.NamedObjects.{names}
use Rattle.term_model.specs.NameOrder.{name_cmp}
use Rattle.term_model.specs.Scope.{base_object, has_level, level_below}

-- the second name stands behind the first
abbrev pub follows : List Rdn → List Rdn → Bool
follows here name = is_lt (name_cmp here name)

-- those of the names that stand behind this one
abbrev pub names_behind : List Rdn → List (List Rdn) → List (List Rdn)
names_behind here names = filter (follows here) names

-- the first of the names that stands behind this one
abbrev pub next_name : List Rdn → List (List Rdn) → Option (List Rdn)
next_name here names = find (follows here) names

-- the next name, at this level below the base
pub record IsNext (base here : List Rdn) (names : List (List Rdn)) (next : List Rdn) (level : ℕ) : Type 0 where
  pub next_is : next_name here names ≡ Some next
  pub level_is : level_below base next ≡ Some level

-- behind this name stands no other, or one that the base doesn't begin
abbrev pub IsLast : List Rdn → List Rdn → List (List Rdn) → Type 0
IsLast base here names = MatchOption (next_name here names) (Unit {0}) (λ next. level_below base next ≡ None)

-- the base begins the name
abbrev pub begins : List Rdn → List Rdn → Bool
begins base name = is_some (level_below base name)

-- those of the names that stand behind this one and that the base begins
abbrev pub begun_behind : List Rdn → List Rdn → List (List Rdn) → List (List Rdn)
begun_behind base here names = filter (begins base) (names_behind here names)

-- The visits before and after one way through the names that a base begins, in a map of up to 100,000 objects: of at
-- most 128 for the base, for each name below it, and once more.
abbrev pub IsOneWay : List NamedObject → List Rdn → ℕ → ℕ → Type 0
IsOneWay objects base before after =
    length objects ≤ 100000 → after ≤ before + 128 * (length (begun_behind base base (names objects)) + 2)

-- the scope reaches no level below the base
abbrev pub EndsAtBase : Scope → Type 0
EndsAtBase scope = (level : ℕ) → has_level scope (suc level) ≡ false

-- the scope is baseObject, or the last level that it names is the base's own or above it
abbrev pub ends_at_base : Scope → Bool
ends_at_base (Plain number) = int_eq number base_object
ends_at_base (Level number) = int_le number (pos 0)
ends_at_base (Upto number) = int_le number (pos 0)

-- the visits before and after one look for the base alone, of at most 128 in a map of up to 100,000 objects, where the
-- scope ends there
abbrev pub IsBaseAlone : List NamedObject → Scope → ℕ → ℕ → Type 0
IsBaseAlone objects scope before after =
    ends_at_base scope ≡ true → length objects ≤ 100000 → after ≤ before + 128
