-- Pieces that stand in a text or in octets, as SUBSTRINGS has it: X.711, CMISFilter; docs/PROFILE.md, section 10.
use Rattle.std.specs.Prelude.{◌≡◌, ◌≤◌, ◌+◌, ℕ, zero, suc, List, ◌++◌, length}
use Rattle.term_values.specs.Typed.{TypedValue, TypedValues}
use Rattle.term_values.specs.Typed.TypedValue.{Text, Octets, Pick}
use Rattle.term_values.specs.Typed.TypedValues.{Nothing, Then}

-- the octets stand in the text from the place on
abbrev pub StandAt : List ℕ → ℕ → List ℕ → Type 0
StandAt text place octets =
    (before : List ℕ) × (after : List ℕ) × (text ≡ before ++ (octets ++ after)) × (length before ≡ place)

-- a piece from the place to the end, in a text of this size: an initial one, 0, begins the text, any other one, 1,
-- stands anywhere, and a final one, 2, ends the text
abbrev pub IsPlaced : ℕ → ℕ → ℕ → ℕ → Type 0
IsPlaced zero place end size = place ≡ 0
IsPlaced (suc zero) place end size = Unit {0}
IsPlaced (suc (suc zero)) place end size = end ≡ size
IsPlaced (suc (suc (suc kind))) place end size = ⊥

-- there is a place at `from`, or behind it, at which a piece of this kind stands in the text, and it ends at `end`
abbrev pub Ends : ℕ → List ℕ → List ℕ → ℕ → ℕ → Type 0
Ends kind octets text from end =
    (place : ℕ) × (from ≤ place) × StandAt text place octets × IsPlaced kind place end (length text)
    × (end ≡ place + length octets)

-- There are places at which the pieces stand in the text, in their order and without overlap: the first one at `from`
-- or behind it, and each other one at the end of the one before it or behind that. Pieces and text are values of one
-- form.
abbrev pub StandFrom : (List ℕ → TypedValue) → List ℕ → ℕ → TypedValues → Type 0
StandFrom form text from Nothing = Unit {0}
StandFrom form text from (Then value values) =
    (kind : ℕ) × (octets : List ℕ) × (end : ℕ) × (value ≡ Pick kind (form octets)) × Ends kind octets text from end
    × StandFrom form text end values

-- the pieces stand in the value, which is a text or octets
abbrev pub StandIn : TypedValue → TypedValues → Type 0
StandIn (Text text) pieces = StandFrom Text text 0 pieces
StandIn (Octets octets) pieces = StandFrom Octets octets 0 pieces
StandIn _ pieces = ⊥
