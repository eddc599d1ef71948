-- What an asserted value and a held one are to each other by a matching rule: X.711, CMISFilter; docs/PROFILE.md,
-- section 10.
use Rattle.std.specs.Cmp.Lexicographic.{slice_cmp}
use Rattle.std.specs.Ordering.{nat_cmp, is_le}
use Rattle.std.specs.Prelude.{◌≡◌, ◌⊎◌, ℕ, List, Bool, true, false, int_le}
use Rattle.term_values.specs.Typed.{TypedValue, TypedValues}
use Rattle.term_values.specs.Typed.TypedValue.{Int, Octets, Identifier, Text, Time, Many}
use Rattle.term_values.specs.Typed.TypedValues.{Nothing, Then}
use Rattle.term_values.specs.MatchingKinds.{MatchingRule}
use Rattle.term_values.specs.MatchingKinds.MatchingRule.{Equality, Ordering, Substrings, Comparison, Intersection}
use Rattle.term_values.specs.MatchingPieces.{StandIn}

-- the numbers are those of the other list, or stand before it: at the first place at which they differ they have the
-- lesser one, or they end there
abbrev pub are_at_most : List ℕ → List ℕ → Bool
are_at_most xs ys = is_le (slice_cmp nat_cmp xs ys)

-- the first value is at most the second: whole numbers and enumerations by number, texts, octets and times by octets,
-- identifiers by arcs
abbrev pub is_at_most : TypedValue → TypedValue → Bool
is_at_most (Int n) (Int m) = int_le n m
is_at_most (Octets xs) (Octets ys) = are_at_most xs ys
is_at_most (Identifier xs) (Identifier ys) = are_at_most xs ys
is_at_most (Text xs) (Text ys) = are_at_most xs ys
is_at_most (Time xs) (Time ys) = are_at_most xs ys
is_at_most _ _ = false

-- the values have the member
abbrev pub Have : TypedValues → TypedValue → Type 0
Have Nothing value = ⊥
Have (Then x xs) value = (x ≡ value) ⊎ Have xs value

-- each asserted member is held
abbrev pub AreHeld : TypedValues → TypedValues → Type 0
AreHeld asserted held = (member : TypedValue) → Have asserted member → Have held member

-- some asserted member is held
abbrev pub HaveCommon : TypedValues → TypedValues → Type 0
HaveCommon asserted held = (member : TypedValue) × Have asserted member × Have held member

-- the asserted value and the held one match by the rule. ORDERING: the asserted one is at most the held one.
-- SUBSTRINGS: the asserted pieces stand in the held value. SET-COMPARISON: each asserted member is held.
-- SET-INTERSECTION: some asserted member is held.
abbrev pub Matches : MatchingRule → TypedValue → TypedValue → Type 0
Matches Equality asserted held = asserted ≡ held
Matches Ordering asserted held = is_at_most asserted held ≡ true
Matches Substrings (Many pieces) held = StandIn held pieces
Matches Comparison (Many asserted) (Many held) = AreHeld asserted held
Matches Intersection (Many asserted) (Many held) = HaveCommon asserted held
Matches _ asserted held = ⊥
