-- The definitions of agent_links computed at examples.
use Rattle.std.proofs.Common.{◌≡◌, ℕ, [], ◌∷◌, Some, refl}
use Rattle.std.specs.Prelude.{codes}
use Rattle.agent_links.specs.Shares.{shares, parts}
use Rattle.agent_links.specs.Sessions.{Session, Gives, silent, told_parts, undealt}
use Rattle.agent_links.specs.Memory.{session_of, silent_halves}

-- five sessions of four workers
five_of_four : shares 5 4 ≡ 2 ∷ 1 ∷ 1 ∷ 1 ∷ []
five_of_four = refl

-- three sessions of four workers: the last has none
three_of_four : shares 3 4 ≡ 1 ∷ 1 ∷ 1 ∷ 0 ∷ []
three_of_four = refl

-- a list of three dealt to two workers with five sessions: past its end there is the filler, here 0
dealt_in_order : parts {X = ℕ} 0 (7 ∷ 8 ∷ 9 ∷ []) 5 2 ≡ (7 ∷ 8 ∷ 9 ∷ []) ∷ (0 ∷ 0 ∷ []) ∷ []
dealt_in_order = refl

-- more of the list than sessions: the rest is not dealt
dealt_a_part : parts {X = ℕ} 0 (7 ∷ 8 ∷ 9 ∷ []) 2 2 ≡ (7 ∷ []) ∷ (8 ∷ []) ∷ []
dealt_a_part = refl

-- a session whose source gives "ab"
abbrev two_bytes : Session
two_bytes = record { given = codes "ab"; written = [] }

-- of two sessions the first is given, and the other one is told from then on
gives_the_first : Gives (Some (two_bytes ∷ silent ∷ [])) (Some (codes "ab")) (Some []) (Some (silent ∷ []))
gives_the_first = (refl, refl, refl)

-- two sessions of one worker, of which one is in the list
tells_two : told_parts (two_bytes ∷ []) 2 1 ≡ Some (two_bytes ∷ silent ∷ []) ∷ []
tells_two = refl

-- one session of one worker: the second of the list isn't dealt
leaves_one : undealt (Some (two_bytes ∷ silent ∷ [])) 1 1 ≡ Some (silent ∷ [])
leaves_one = refl

-- what is told of a session past the end
silent_is_told : session_of silent_halves ≡ silent
silent_is_told = refl
