-- Whether an asserted value and a held one match by a rule, as a test that computes: X.711, CMISFilter.
use Rattle.std.specs.Prelude.{◌+◌, ◌-◌, ◌==◌, ◌&&◌, ℕ, zero, suc, List, Bool, true, false, Option, Some, None}
use Rattle.std.specs.Prelude.{◌||◌, drop, length, take}
use Rattle.std.specs.List.{list_any, range_with_len}
use Rattle.std.specs.Option.{option_map_or}
use Rattle.term_values.specs.SameValue.{same_octets, same_value}
use Rattle.term_values.specs.Typed.{TypedValue, TypedValues}
use Rattle.term_values.specs.Typed.TypedValue.{Many, Octets, Pick, Text}
use Rattle.term_values.specs.Typed.TypedValues.{Nothing, Then}
use Rattle.term_values.specs.Matching.{is_at_most}
use Rattle.term_values.specs.MatchingKinds.{MatchingRule}
use Rattle.term_values.specs.MatchingKinds.MatchingRule.{Equality, Ordering, Substrings, Comparison, Intersection}

-- the values have the member
abbrev pub have : TypedValues → TypedValue → Bool
have Nothing value = false
have (Then x xs) value = same_value x value || have xs value

-- each asserted member is held; some asserted member is held
abbrev pub are_held : TypedValues → TypedValues → Bool
are_held Nothing held = true
are_held (Then x xs) held = have held x && are_held xs held

abbrev pub have_common : TypedValues → TypedValues → Bool
have_common Nothing held = false
have_common (Then x xs) held = have held x || have_common xs held

-- the octets stand in the text from the place on
abbrev pub stand_at : List ℕ → ℕ → List ℕ → Bool
stand_at text place octets = same_octets (take (length octets) (drop place text)) octets

-- a piece from the place to the end, in a text of this size: an initial one, 0, begins the text, any other one, 1,
-- stands anywhere, and a final one, 2, ends the text
abbrev pub is_placed : ℕ → ℕ → ℕ → ℕ → Bool
is_placed zero place end size = place == 0
is_placed (suc zero) place end size = true
is_placed (suc (suc zero)) place end size = end == size
is_placed (suc (suc (suc kind))) place end size = false

-- at the place stands a piece of this kind
abbrev pub ends : ℕ → List ℕ → List ℕ → ℕ → Bool
ends kind octets text place =
    stand_at text place octets && is_placed kind place (place + length octets) (length text)

-- the places of a text from this one on, its end among them
abbrev pub places : ℕ → List ℕ → List ℕ
places from text = range_with_len from (length text + 1 - from)

-- a piece of a text, and of octets
abbrev pub text_piece : TypedValue → Option (ℕ × List ℕ)
text_piece (Pick kind (Text octets)) = Some (kind, octets)
text_piece _ = None

abbrev pub octets_piece : TypedValue → Option (ℕ × List ℕ)
octets_piece (Pick kind (Octets octets)) = Some (kind, octets)
octets_piece _ = None

-- there are places from this one on at which the pieces stand in the text, in their order and without overlap
abbrev pub stand_from : (TypedValue → Option (ℕ × List ℕ)) → List ℕ → ℕ → TypedValues → Bool
stand_from piece text from Nothing = true
stand_from piece text from (Then value values) =
    option_map_or
    (λ (of_kind : ℕ × List ℕ). list_any
    (λ place. ends of_kind.0 of_kind.1 text place && stand_from piece text (place + length of_kind.1) values)
    (places from text))
    (piece value) false

abbrev pub stand_in : TypedValue → TypedValues → Bool
stand_in (Text text) pieces = stand_from text_piece text 0 pieces
stand_in (Octets octets) pieces = stand_from octets_piece octets 0 pieces
stand_in _ pieces = false

-- the test of each rule
abbrev pub do_match : MatchingRule → TypedValue → TypedValue → Bool
do_match Equality asserted held = same_value asserted held
do_match Ordering asserted held = is_at_most asserted held
do_match Substrings (Many pieces) held = stand_in held pieces
do_match Comparison (Many asserted) (Many held) = are_held asserted held
do_match Intersection (Many asserted) (Many held) = have_common asserted held
do_match _ asserted held = false
