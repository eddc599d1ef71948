-- Examples of matching, computed from the definitions: docs/PROFILE.md, section 10.
use Rattle.std.proofs.Common.{◌≡◌, ◌≤◌, ◌+◌, ℕ, true, false, List, [], ◌∷◌, ◌++◌, length, refl, ap, ◌∙◌, inl, inr}
use Rattle.std.proofs.Common.{arith, length-append}
use Rattle.std.specs.Prelude.{pos, negsuc, codes}
use Rattle.term_values.specs.Syntaxes.TypeSyntax.{Boolean, Integer, SetOf, Tagged, Choice}
use Rattle.term_values.specs.Syntaxes.TypeParts.{NoParts}
use Rattle.term_values.specs.Tag.{context}
use Rattle.term_values.specs.Typed.{TypedValue}
use Rattle.term_values.specs.Typed.TypedValue.{Int, Octets, Identifier, Text, Time, Many, Pick}
use Rattle.term_values.specs.Typed.TypedValues.{Nothing, Then}
use Rattle.term_values.specs.declared.rules.Rules.{Rules}
use Rattle.term_values.specs.Matching.{Matches, is_at_most}
use Rattle.term_values.specs.MatchingKinds.{can_match}
use Rattle.term_values.specs.MatchingKinds.MatchingRule.{Ordering, Comparison, Intersection}
use Rattle.term_values.specs.MatchingPieces.{StandAt, StandIn}

-- ORDERING and nothing else
abbrev ordered : Rules
ordered = record { equality = false; ordering = true; substrings = false; comparison = false; intersection = false }

-- the kind is asked beneath all tags
beneath : can_match Ordering ordered (Tagged (context 3) true (Tagged (context 4) false (Integer [] []))) ≡ true
beneath = refl

no_order : can_match Ordering ordered Boolean ≡ false
no_order = refl

no_order_of_choices : can_match Ordering ordered (Choice NoParts) ≡ false
no_order_of_choices = refl

no_such_rule : can_match Comparison ordered (SetOf (Integer [] []) []) ≡ false
no_such_rule = refl

-- numbers by number, and texts by octets: -1 and 0, b and abc
below_zero : is_at_most (Int (negsuc 0)) (Int (pos 0)) ≡ true
below_zero = refl

above : is_at_most (Int (pos 0)) (Int (negsuc 0)) ≡ false
above = refl

texts : is_at_most (Text (codes "b")) (Text (codes "abc")) ≡ false
texts = refl

times : is_at_most (Time (codes "19851106210627Z")) (Time (codes "19851106210628Z")) ≡ true
times = refl

-- an identifier stands before those that it begins
begun : is_at_most (Identifier (1 ∷ (2 ∷ []))) (Identifier (1 ∷ (2 ∷ (3 ∷ [])))) ≡ true
begun = refl

longer : is_at_most (Identifier (1 ∷ (2 ∷ (3 ∷ [])))) (Identifier (1 ∷ (2 ∷ []))) ≡ false
longer = refl

-- values of two forms are in no order
two_forms : is_at_most (Text (codes "a")) (Octets (codes "a")) ≡ false
two_forms = refl

-- initial ab and final ba stand in abba
whole : StandIn (Text (codes "abba")) (Then (Pick 0 (Text (codes "ab"))) (Then (Pick 2 (Text (codes "ba"))) Nothing))
whole = (
  0,
  codes "ab",
  2,
  refl,
  (0, omega arith, ([], codes "ba", refl, refl), refl, refl),
  (2, codes "ba", 4, refl, (2, omega arith, (codes "ab", [], refl, refl), refl, refl), tt),
)

-- but not in aba, where they would overlap
abbrev piece_of : TypedValue → List ℕ
piece_of (Pick kind (Text octets)) = octets
piece_of _ = []

fits : (text octets : List ℕ) (place : ℕ) → StandAt text place octets → place + length octets ≤ length text
fits text octets place s =
    let sizes = ap length s.2 ∙ length-append s.0 (octets ++ s.1) in
    omega (arith, sizes, length-append octets s.1, s.3)

overlap : ¬ StandIn (Text (codes "aba")) (Then (Pick 0 (Text (codes "ab"))) (Then (Pick 2 (Text (codes "ba"))) Nothing))
overlap s =
    let first : codes "ab" ≡ s.1 = ap piece_of s.3 in
    let ends = s.4 in
    let later = s.5 in
    let second : codes "ba" ≡ later.1 = ap piece_of later.3 in
    let last = later.4 in
    let within = fits (codes "aba") later.1 last.0 last.2 in
    omega (arith, ap length first, ap length second, ends.4, last.1, last.4, within)

-- no piece stands in each text
no_piece : StandIn (Text []) Nothing
no_piece = tt

-- equal members count once
twice : Matches Comparison (Many (Then (Int (pos 1)) (Then (Int (pos 1)) Nothing))) (Many (Then (Int (pos 1)) Nothing))
twice member (inl e) = inl e
twice member (inr (inl e)) = inl e
twice member (inr (inr h)) = absurd h

-- the empty set is within each set, and no set but itself within the empty one
empty : Matches Comparison (Many Nothing) (Many (Then (Int (pos 1)) Nothing))
empty member h = absurd h

not_within : ¬ Matches Comparison (Many (Then (Int (pos 1)) Nothing)) (Many Nothing)
not_within all = all (Int (pos 1)) (inl refl)

-- 2 is the common member of 1, 2 and 2, 3; the empty set has none with any
common : Matches Intersection (Many (Then (Int (pos 1)) (Then (Int (pos 2)) Nothing)))
    (Many (Then (Int (pos 2)) (Then (Int (pos 3)) Nothing)))
common = (Int (pos 2), inr (inl refl), inl refl)

no_common : ¬ Matches Intersection (Many Nothing) (Many (Then (Int (pos 1)) Nothing))
no_common shared = shared.1
