-- LineParts: what is read of the parts of a script's line; docs/PROFILE.md, section 5.
use Rattle.std.specs.Prelude.{◌≡◌, ◌≢◌, ℕ, ◌<◌, List, ◌∷◌, ◌++◌, Option, None, Some, decimal, length, slice_index}
use Rattle.hex.specs.Hex.{encode_upper}
use Rattle.agent_model.specs.declared.script_line.ScriptLine.{ScriptLine}
use Rattle.script_lines.specs.ScriptText.{IsHeld, IsLine, IsNumber, words_of}

-- a byte stands nowhere in a text
abbrev pub IsWithout : ℕ → List ℕ → Type 0
IsWithout byte text = (k : ℕ) → k < length text → slice_index text k ≢ byte

-- what stands before the first such byte, and what behind it
pub record IsSplit (byte : ℕ) (text front behind : List ℕ) : Type 0 where
  pub parts : text ≡ front ++ (byte ∷ behind)
  pub without : IsWithout byte front

-- the number that digits are the text of, or none
abbrev pub IsNumberIn : List ℕ → Option ℕ → Type 0
IsNumberIn digits (Some number) = (digits ≡ decimal number) × IsNumber number
IsNumberIn digits None = (number : ℕ) → IsNumber number → digits ≡ decimal number → ⊥

-- the octets that digits spell, or none
abbrev pub AreOctetsIn : List ℕ → Option (List ℕ) → Type 0
AreOctetsIn digits (Some octets) = (digits ≡ encode_upper octets) × IsHeld octets
AreOctetsIn digits None = (octets : List ℕ) → IsHeld octets → digits ≡ encode_upper octets → ⊥

-- the line whose words these are, or none
abbrev pub IsLineIn : List ℕ → Option ScriptLine → Type 0
IsLineIn words (Some next) = (words ≡ words_of next) × IsLine next
IsLineIn words None = (next : ScriptLine) → IsLine next → words ≡ words_of next → ⊥
