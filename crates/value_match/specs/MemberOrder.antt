-- What is told of the order of the numbers of two members.
use Rattle.std.specs.Prelude.{◌≡◌, ◌<◌, ℕ, Bool, true, false, List, ◌∷◌, ◌++◌}
use Rattle.value_match.specs.declared.told.MemberOrder.{MemberOrder}
use Rattle.value_match.specs.declared.told.MemberOrder.TheVariants.{Before, Alike, After, Untold}

-- at the first place at which the numbers differ, which both lists have, the first one has the lesser
abbrev pub StandsBefore : List ℕ → List ℕ → Type 0
StandsBefore xs ys =
    (common : List ℕ) × (n : ℕ) × (m : ℕ) × (ns : List ℕ) × (ms : List ℕ) × (xs ≡ common ++ (n ∷ ns))
    × (ys ≡ common ++ (m ∷ ms)) × (n < m)

abbrev pub TellsOrder : MemberOrder → List ℕ → List ℕ → Type 0
TellsOrder Before xs ys = StandsBefore xs ys
TellsOrder Alike xs ys = xs ≡ ys
TellsOrder After xs ys = StandsBefore ys xs
TellsOrder Untold xs ys = Unit {0}

-- it is told that the first one may stand before the second
abbrev pub is_rising : MemberOrder → Bool
is_rising Before = true
is_rising Alike = true
is_rising After = false
is_rising Untold = false
