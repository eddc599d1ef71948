-- An example of the definitions, computed: of three elements the first leads to the second, and the third to both.
use Rattle.std.proofs.Common.{ℕ, List, [], ◌∷◌, arith, refl}
use Rattle.link_graphs.specs.Leading.{LeadsAtOnce}
use Rattle.reached_elements.specs.Reaching.{IsReached, IsSomeTarget}
use Rattle.reached_elements.specs.Reaching.IsReached.{begun, onward}

abbrev three : List (List ℕ)
three = (1 ∷ []) ∷ [] ∷ (0 ∷ 1 ∷ []) ∷ []

to_first : LeadsAtOnce three 2 0
to_first = record { place = 0; stands = refl; within = omega arith }

to_second : LeadsAtOnce three 0 1
to_second = record { place = 0; stands = refl; within = omega arith }

second : IsReached three (2 ∷ []) 1
second = onward (onward (begun (0, refl) (omega arith)) to_first) to_second

second_too : IsSomeTarget three (0 ∷ []) 1
second_too = (omega arith, (0, (0, refl), (0, refl)))
