-- Which objects a request reaches: X.711, section 7.5, type Scope; docs/PROFILE.md. The base object is at the level 0,
-- and each object is one level below its superior.
use Rattle.std.specs.Prelude.{◌≡◌, ℕ, ℤ, pos, List, [], ◌∷◌, ◌++◌, Bool, true, false, Contains, Option, Some, None}
use Rattle.std.specs.Prelude.{◌==◌, ◌&&◌, ◌||◌, filter, int_le, length, if◌then◌else◌}
use Rattle.std.specs.Option.{option_map_or}
use Rattle.std.specs.Ordering.{int_eq}
use Rattle.term_model.specs.declared.name.Rdn.{Rdn}
use Rattle.term_model.specs.declared.objects.NamedObject.{NamedObject}
use Rattle.term_model.specs.declared.scope.Scope.{Scope}
use Rattle.term_model.specs.declared.scope.Scope.TheVariants.{Plain, Level, Upto}
use Rattle.term_model.specs.Comparing.{is_same_rdn}
use Rattle.term_model.specs.NamedObjects.{names}

-- the numbers of the scopes that are named: baseObject, firstLevelOnly and wholeSubtree
abbrev pub base_object : ℤ
base_object = pos 0

abbrev pub first_level_only : ℤ
first_level_only = pos 1

abbrev pub whole_subtree : ℤ
whole_subtree = pos 2

-- A scope reaches objects at this level. baseObject: the base object; firstLevelOnly: the level below it; wholeSubtree:
-- each level; individualLevels: the one that it names; baseToNthLevel: each level down to the one that it names.
abbrev pub has_level : Scope → ℕ → Bool
has_level (Plain number) level =
    int_eq number base_object && level == 0 || int_eq number first_level_only && level == 1
    || int_eq number whole_subtree
has_level (Level number) level = int_eq number (pos level)
has_level (Upto number) level = int_le (pos level) number

-- the name is the base object's or below it, at a level that the scope reaches
abbrev pub IsWithin : List Rdn → Scope → List Rdn → Type 0
IsWithin base scope name =
    (behind : List Rdn) × (name ≡ base ++ behind) × (has_level scope (length behind) ≡ true)

-- the names in scope, as a set
abbrev pub IsInScope : List NamedObject → List Rdn → Scope → List Rdn → Type 0
IsInScope objects base scope name = Contains (names objects) name × IsWithin base scope name

-- how many levels the name is below the base object, where it is the base object's or below it
abbrev pub level_below : List Rdn → List Rdn → Option ℕ
level_below [] name = Some (length name)
level_below (part ∷ parts) [] = None
level_below (part ∷ parts) (first ∷ others) = if is_same_rdn part first then level_below parts others else None

abbrev pub is_within : List Rdn → Scope → List Rdn → Bool
is_within base scope name = option_map_or (has_level scope) (level_below base name) false

-- the names in scope by the order of names
abbrev pub names_in_scope : List NamedObject → List Rdn → Scope → List (List Rdn)
names_in_scope objects base scope = filter (is_within base scope) (names objects)
