-- The value that an object has of the attribute with a label, and attributes by rising identifier, each once:
-- docs/PROFILE.md, sections 15 and 21.
use Rattle.std.specs.Prelude.{ℕ, List, [], ◌∷◌, Option, find}
use Rattle.std.specs.Cmp.Lexicographic.{slice_cmp}
use Rattle.std.specs.Option.{option_map}
use Rattle.std.specs.Ordering.{nat_cmp}
use Rattle.std.specs.declared.cmp.Ordering.{Ordering}
use Rattle.std.specs.declared.cmp.Ordering.TheVariants.{Less, Equal, Greater}
use Rattle.term_values.specs.Typed.{TypedValue}
use Rattle.term_model.specs.declared.object.Attribute.{Attribute}
use Rattle.term_model.specs.declared.schema.AttrRec.{AttrRec}
use Rattle.term_model.specs.ClassAttributes.{is_labelled}

abbrev pub labelled_value : List AttrRec → List ℕ → List Attribute → Option TypedValue
labelled_value records label attributes =
    option_map (λ (held : Attribute). held.value)
    (find (λ (held : Attribute). is_labelled records label held.id) attributes)

-- an attribute in front of the first of others, in its place, or among those behind it
abbrev pub placed_by : Ordering → Attribute → Attribute → List Attribute → List Attribute → List Attribute
placed_by Less held first others behind = held ∷ first ∷ others
placed_by Equal held first others behind = held ∷ others
placed_by Greater held first others behind = first ∷ behind

abbrev pub placed : Attribute → List Attribute → List Attribute
placed held [] = held ∷ []
placed held (first ∷ others) =
    placed_by (slice_cmp nat_cmp held.id first.id) held first others (placed held others)

-- attributes by rising identifier; of those with one identifier the first one
abbrev pub by_identifier : List Attribute → List Attribute
by_identifier [] = []
by_identifier (held ∷ others) = placed held (by_identifier others)
