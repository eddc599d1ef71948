-- What holds of shares.
use Rattle.std.specs.Prelude.{◌≡◌, ℕ, ◌<◌, List, [], ◌∷◌, ◌++◌}
use Rattle.agent_links.specs.Shares.{shared, part, parts}
use Rattle.agent_links.specs.Sessions.{Session, silent}

-- lists in a row
abbrev pub joined : {X : Type 0} → List (List X) → List X
joined [] = []
joined (list ∷ lists) = list ++ joined lists

-- the shares of all workers together are as many as the sessions
abbrev pub SharesAddUp : Type 0
SharesAddUp = (sessions workers : ℕ) → 0 < workers → shared sessions workers workers ≡ sessions

-- the parts in a row are the front of the list, as long as the sessions are many
abbrev pub PartsJoined : Type 0
PartsJoined = (list : List Session) (sessions workers : ℕ) → 0 < workers →
    joined (parts silent list sessions workers) ≡ part silent list 0 sessions
