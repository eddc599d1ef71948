-- Where an attribute stands among others: X.720, section 5; docs/PROFILE.md, section 15.
use Rattle.std.specs.Prelude.{ℕ, suc, List, [], ◌∷◌, Bool, true, ◌&&◌, Option, None, Some, if◌then◌else◌}
use Rattle.std.specs.Cmp.Lexicographic.{slice_cmp}
use Rattle.std.specs.Option.{option_map}
use Rattle.std.specs.Ordering.{is_lt, nat_cmp}
use Rattle.term_model.specs.declared.object.Attribute.{Attribute}
use Rattle.term_model.specs.Comparing.{is_same_oid}

-- identifiers that rise, the first one behind this one
abbrev pub rise_from : List ℕ → List Attribute → Bool
rise_from before [] = true
rise_from before (attribute ∷ others) =
    is_lt (slice_cmp nat_cmp before attribute.id) && rise_from attribute.id others

abbrev pub are_rising : List Attribute → Bool
are_rising [] = true
are_rising (first ∷ others) = rise_from first.id others

-- at which place the first attribute with an identifier stands, counted from 0
abbrev pub place_of : List Attribute → List ℕ → Option ℕ
place_of [] id = None
place_of (first ∷ others) id =
    if is_same_oid first.id id then Some 0 else option_map suc (place_of others id)
