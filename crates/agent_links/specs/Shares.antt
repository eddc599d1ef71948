-- Shares: how many sessions each worker serves, and which of a list. Workers, and places in the list, count from 0.
use Rattle.std.specs.Prelude.{ℕ, zero, suc, ◌+◌, ◌/◌, ◌%◌, ◌<◌, List, [], ◌∷◌, ◌++◌, get_or, nat_lt}
use Rattle.std.specs.Prelude.{if◌then◌else◌}

-- the share of one worker: an equal part, and one more for each of the first workers while sessions are over
abbrev pub share : ℕ → ℕ → ℕ → ℕ
share sessions workers worker = sessions / workers + (if nat_lt worker (sessions % workers) then 1 else 0)

-- the shares of the first workers, in order
abbrev pub first_shares : ℕ → ℕ → ℕ → List ℕ
first_shares sessions workers zero = []
first_shares sessions workers (suc worker) = first_shares sessions workers worker ++ share sessions workers worker ∷ []

-- how many sessions the first workers have together
abbrev pub shared : ℕ → ℕ → ℕ → ℕ
shared sessions workers zero = 0
shared sessions workers (suc worker) = shared sessions workers worker + share sessions workers worker

-- as many elements of a list as `count` says, from one place on; past its end each is `past`
abbrev pub part : {X : Type 0} → X → List X → ℕ → ℕ → List X
part past list from zero = []
part past list from (suc count) = part past list from count ++ get_or list (from + count) past ∷ []

-- the parts of the first workers, in order: each is as long as the worker's share, and follows those before it
abbrev pub first_parts : {X : Type 0} → X → List X → ℕ → ℕ → ℕ → List (List X)
first_parts past list sessions workers zero = []
first_parts past list sessions workers (suc worker) =
    first_parts past list sessions workers worker
    ++ part past list (shared sessions workers worker) (share sessions workers worker) ∷ []

-- the shares, and the parts, of all workers
abbrev pub shares : ℕ → ℕ → List ℕ
shares sessions workers = first_shares sessions workers workers

abbrev pub parts : {X : Type 0} → X → List X → ℕ → ℕ → List (List X)
parts past list sessions workers = first_parts past list sessions workers workers
