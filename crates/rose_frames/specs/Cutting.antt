-- Octets as frames one after another, and what is behind them: docs/PROFILE.md, section 4.
use Rattle.std.specs.Prelude.{◌≡◌, ℕ, ◌<◌, ◌≤◌, List, ◌++◌, false, All, length, flat_map}
use Rattle.term_model.specs.RemoteOperation.{frame}
use Rattle.rose_frames.specs.Framing.{in_hand, is_whole, place_behind}

-- what is in a frame
abbrev pub IsFramed : List ℕ → Type 0
IsFramed apdu = (0 < length apdu) × (length apdu ≤ 1048576)

-- the octets are those of frames with these APDUs, and then the rest
pub record Begins (bytes : List ℕ) (apdus : List (List ℕ)) (rest : List ℕ) : Type 0 where
  pub whole : bytes ≡ flat_map frame apdus ++ rest
  pub each : All IsFramed apdus

-- and no whole frame begins the rest, which is cut off or has a length that is refused
pub record IsCut (bytes : List ℕ) (apdus : List (List ℕ)) (rest : List ℕ) : Type 0 where
  pub begins : Begins bytes apdus rest
  pub stops : is_whole (in_hand rest) ≡ false

-- octets are cut in one way
abbrev pub OneCut : Type 0
OneCut = (bytes rest others : List ℕ) (apdus further : List (List ℕ)) → IsCut bytes apdus rest →
    IsCut bytes further others → (apdus ≡ further) × (rest ≡ others)

-- the octets of pieces one after another
abbrev pub joined : List (List ℕ) → List ℕ
joined pieces = flat_map (λ piece. piece) pieces

-- the place behind frames, as far as 64 bits hold it
abbrev pub place_after : List (List ℕ) → ℕ
place_after apdus = place_behind 0 (length (flat_map frame apdus))
