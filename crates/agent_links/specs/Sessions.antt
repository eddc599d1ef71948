-- Sessions as they are told before they begin. None stands for an implementation that tells nothing.
use Rattle.std.specs.Prelude.{◌≡◌, ℕ, List, [], ◌∷◌, map, drop, Option, None, Some}
use Rattle.agent_links.specs.Shares.{shared, parts}

-- a session: the bytes that its source gives, and those that its sink has already
pub record Session : Type 0 where
  pub given : List ℕ
  pub written : List ℕ

-- the session past the end of a list
abbrev pub silent : Session
silent = record { given = []; written = [] }

-- The session given is the first of those that were told, and the others are told from then on. The arguments are what
-- was told before, the bytes of the source, those of the sink, and what is told after.
abbrev pub Gives : Option (List Session) → Option (List ℕ) → Option (List ℕ) → Option (List Session) → Type 0
Gives None source sink after = after ≡ None
Gives (Some []) source sink after = ⊥
Gives (Some (session ∷ rest)) source sink after =
    (source ≡ Some session.given) × (sink ≡ Some session.written) × (after ≡ Some rest)

-- what each post tells of its sessions, where the list is told
abbrev pub told_parts : List Session → ℕ → ℕ → List (Option (List Session))
told_parts list sessions workers = map Some (parts silent list sessions workers)

-- the posts tell their parts of the list, where it is told
abbrev pub AreDealt : Option (List Session) → ℕ → ℕ → List (Option (List Session)) → Type 0
AreDealt None sessions workers told = Unit {0}
AreDealt (Some list) sessions workers told = told ≡ told_parts list sessions workers

-- what is left of the list once all parts are dealt
abbrev pub undealt : Option (List Session) → ℕ → ℕ → Option (List Session)
undealt None sessions workers = None
undealt (Some list) sessions workers = Some (drop (shared sessions workers workers) list)
