-- Components of a SEQUENCE in a row, of which some may be left out, and members of a list: X.690, sections 8.9 and
-- 8.10.
use Rattle.std.specs.Prelude.{ℕ, List, [], ◌∷◌, Bool, true, false, ◌||◌, Option, None, Some, option_and_then}
use Rattle.std.specs.Prelude.{if◌then◌else◌}
use Rattle.std.specs.Option.{option_map}
use Rattle.term_values.specs.FilterTrees.{is_context}
use Rattle.term_values.specs.LeafReading.{no_trees}
use Rattle.term_values.specs.Tag.{context}
use Rattle.term_values.specs.Tree.{TreeValue, TreeValues}
use Rattle.term_values.specs.Tree.TreeValues.{Nothing, Then}
use Rattle.term_values.specs.TreeTags.{tag_of}
use Rattle.term_values.specs.declared.tag.Tag.{Tag}
use Rattle.term_model.specs.Parts.{inside_under, one, one_under}

-- a component that may be left out: the first tree, where it begins as such a component does, and what follows
abbrev pub at_front : (Tag → Bool) → TreeValues → Option TreeValue × TreeValues
at_front begins Nothing = (None, Nothing)
at_front begins (Then x xs) = if begins (tag_of x) then (Some x, xs) else (None, Then x xs)

-- such a component, where nothing follows
abbrev pub where_last : Option TreeValue × TreeValues → Option (Option TreeValue)
where_last front = if no_trees front.1 then Some front.0 else None

abbrev pub at_end : ℕ → TreeValues → Option (Option TreeValue)
at_end number trees = where_last (at_front (is_context number) trees)

-- the values in the one tree of a row, which has the context tag with this number
abbrev pub inside_last : ℕ → TreeValues → Option TreeValues
inside_last number trees = option_and_then (inside_under (context number)) (one trees)

-- the one value under the explicit tag of a component that may be left out
abbrev pub held_under : ℕ → Option TreeValue → Option (Option TreeValue)
held_under number None = Some None
held_under number (Some x) = option_map Some (one_under (context number) x)

-- the members that trees in a row give, in their order
abbrev pub all_in : {A : Type 0} → (TreeValue → Option A) → TreeValues → Option (List A)
all_in read Nothing = Some []
all_in read (Then x xs) = option_and_then (λ a. option_map (λ rest. a ∷ rest) (all_in read xs)) (read x)

-- a CMISFilter begins with the tag of an item, and, or, not
abbrev pub begins_filter : Tag → Bool
begins_filter tag = is_context 8 tag || is_context 9 tag || is_context 10 tag || is_context 11 tag

-- the place of an m-Create begins with the tag of a form of ObjectInstance, or is explicitly a superior
abbrev pub begins_place : Tag → Bool
begins_place tag = is_context 2 tag || is_context 3 tag || is_context 4 tag || is_context 8 tag
