-- Frames in a stream of octets: docs/PROFILE.md, section 4. A frame is four octets of length, the most significant one
-- first, and as many octets of an APDU, of which there are 1 to 1,048,576.
use Rattle.std.specs.Prelude.{ℕ, ◌+◌, ◌-◌, ◌^◌, List, [], ◌∷◌, Bool, false, ◌==◌, ◌&&◌, not, nat_lt, nat_le, min}
use Rattle.std.specs.Prelude.{length, take, Option, None, Some, if◌then◌else◌}
use Rattle.term_values.specs.Octets.{number}
use Rattle.rose_frames.specs.declared.frame_refusal.FrameRefusal.{FrameRefusal}
use Rattle.rose_frames.specs.declared.frame_refusal.FrameRefusal.TheVariants.{TooLong, ZeroLength}

-- what is held of a stream: the place of the frame in hand in all that was fed, and its octets, those of its length
-- among them. The frames that stood before it were handed out.
pub record Framing : Type 0 where
  pub place : ℕ
  pub octets : List ℕ

-- a place, as far as 64 bits hold it
abbrev pub place_behind : ℕ → ℕ → ℕ
place_behind place size = min (place + size) (2 ^ 64 - 1)

-- the length that the first four octets give
abbrev pub announced : List ℕ → ℕ
announced octets = number (take 4 octets)

-- what is wrong with a length
abbrev pub fault_of : ℕ → ℕ → Option FrameRefusal
fault_of place size =
    if size == 0 then Some (ZeroLength place) else (if nat_lt 1048576 size then Some (TooLong place size) else None)

-- what is wrong with the length of the frame that begins the octets, as far as its octets are there
abbrev pub fault_in : ℕ → List ℕ → Option FrameRefusal
fault_in place octets = if nat_lt (length octets) 4 then None else fault_of place (announced octets)

-- how many octets the frame that begins the octets has, as far as that is known
abbrev pub frame_size : List ℕ → ℕ
frame_size octets = if nat_lt (length octets) 4 then 4 else 4 + announced octets

-- the octets of the frame that begins the octets, as far as they are there
abbrev pub in_hand : List ℕ → List ℕ
in_hand octets = take (frame_size octets) octets

-- a length is that of an APDU
abbrev pub is_size : ℕ → Bool
is_size size = nat_lt 0 size && nat_le size 1048576

-- the octets are those of one whole frame
abbrev pub is_whole : List ℕ → Bool
is_whole octets =
    nat_le 4 (length octets) && (is_size (announced octets) && length octets == 4 + announced octets)

-- a frame is begun and not ended
abbrev pub is_begun : List ℕ → Bool
is_begun [] = false
is_begun (octet ∷ octets) = not (is_whole (octet ∷ octets))

-- the place of a frame begun and not ended
abbrev pub place_inside : Framing → Option ℕ
place_inside framing = if is_begun framing.octets then Some framing.place else None
