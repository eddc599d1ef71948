-- ComponentKeys: which component has a name, in a SEQUENCE or SET under any tags: the first of that name; which types
-- are INTEGER under any tags, and which have a number of a name (X.722, section 8.11; docs/PROFILE.md, sections 9 and
-- 12).
use Rattle.std.specs.Prelude.{ℕ, List, Bool, true, false, ◌==◌, Option, None, Some, if◌then◌else◌}
use Rattle.std.specs.Cmp.Lexicographic.{pointwise}
use Rattle.std.specs.List.{list_any}
use Rattle.term_values.specs.Syntaxes.{Named}
use Rattle.key_numbers.specs.KeyNumbers.{IsKeyNumber}
use Rattle.key_numbers.specs.NumberedLists.{Row}
use Rattle.key_numbers.specs.TypeKeys.{TypeKey, PartKeys}
use Rattle.key_numbers.specs.TypeKeys.TypeKey.{IntegerKey, EnumeratedKey, SequenceKey, SetKey, TaggedKey}
use Rattle.key_numbers.specs.TypeKeys.PartKeys.{NoKeys, PartKey}

-- the first component of this name
abbrev pub part_key : List ℕ → PartKeys → Option TypeKey
part_key name NoKeys = None
part_key name (PartKey its_name of optional default rest) =
    if pointwise ◌==◌ its_name name then Some of else part_key name rest

abbrev pub component_key : List ℕ → TypeKey → Option TypeKey
component_key name (SequenceKey keys) = part_key name keys
component_key name (SetKey keys) = part_key name keys
component_key name (TaggedKey tag explicit of) = component_key name of
component_key name _ = None

-- what is told of a component: the number of its type, or that there is none
abbrev pub TellsComponent : Row → Option TypeKey → Option ℕ → Type 0
TellsComponent row (Some key) (Some n) = IsKeyNumber row key n
TellsComponent row None None = Unit {0}
TellsComponent row _ _ = ⊥

-- what stands beneath all tags
abbrev pub beneath_key : TypeKey → TypeKey
beneath_key (TaggedKey tag explicit of) = beneath_key of
beneath_key key = key

abbrev pub is_tag_key : TypeKey → Bool
is_tag_key (TaggedKey tag explicit of) = true
is_tag_key _ = false

-- INTEGER, under any tags
abbrev pub is_integer_key : TypeKey → Bool
is_integer_key (IntegerKey names bounds) = true
is_integer_key (TaggedKey tag explicit of) = is_integer_key of
is_integer_key _ = false

-- a number has this name
abbrev pub names_one : List ℕ → Named → Bool
names_one name names = list_any (λ x. pointwise ◌==◌ x.0 name) names

-- an INTEGER or ENUMERATED, under any tags, has a number of this name
abbrev pub has_number_key : List ℕ → TypeKey → Bool
has_number_key name (IntegerKey names bounds) = names_one name names
has_number_key name (EnumeratedKey names) = names_one name names
has_number_key name (TaggedKey tag explicit of) = has_number_key name of
has_number_key name _ = false
