-- ScriptText: a line of a script and its one text, and the lines at the front of a text; docs/PROFILE.md, section 5.
use Rattle.std.specs.Prelude.{◌≡◌, ℕ, ◌<◌, ◌≤◌, ◌^◌, List, ◌++◌, codes, decimal, flat_map, length}
use Rattle.std.specs.List.{All}
use Rattle.hex.specs.Hex.{IsBytes, encode_upper}
use Rattle.term_model.specs.LineTexts.{line_feed}
use Rattle.agent_model.specs.declared.script_line.ScriptLine.{ScriptLine}
use Rattle.agent_model.specs.declared.script_line.ScriptLine.TheVariants as line

-- the most octets of a line
abbrev pub most_octets : ℕ
most_octets = 1048576

-- octets that a line may hold
pub record IsHeld (octets : List ℕ) : Type 0 where
  pub octets_all : IsBytes octets
  pub some : 0 < length octets
  pub few : length octets ≤ most_octets

-- a number that a line may hold
abbrev pub IsNumber : ℕ → Type 0
IsNumber number = number < 2 ^ 64

-- a line that may stand in a script
abbrev pub IsLine : ScriptLine → Type 0
IsLine (line.At moment) = IsNumber moment
IsLine (line.Open bind) = IsHeld bind
IsLine (line.Send number apdu) = IsNumber number × IsHeld apdu
IsLine (line.End number) = IsNumber number

-- the words of a line: at T, open HEX, send A HEX, end A
abbrev pub words_of : ScriptLine → List ℕ
words_of (line.At moment) = codes "at " ++ decimal moment
words_of (line.Open bind) = codes "open " ++ encode_upper bind
words_of (line.Send number apdu) = codes "send " ++ (decimal number ++ (codes " " ++ encode_upper apdu))
words_of (line.End number) = codes "end " ++ decimal number

-- the text of a line, with the line feed that ends it
abbrev pub line_text : ScriptLine → List ℕ
line_text next = words_of next ++ line_feed

-- a text that begins with no line
abbrev pub BeginsNoLine : List ℕ → Type 0
BeginsNoLine text = (next : ScriptLine) (others : List ℕ) → IsLine next → text ≡ line_text next ++ others → ⊥

-- the lines at the front of a text, and the rest, which begins with no line
pub record AreFirstLines (text : List ℕ) (lines : List ScriptLine) (rest : List ℕ) : Type 0 where
  pub spelt : text ≡ flat_map line_text lines ++ rest
  pub each : All IsLine lines
  pub last : BeginsNoLine rest

-- a text has one such list of lines, and one rest
abbrev pub FirstLinesAreOne : Type 0
FirstLinesAreOne =
    (text rest other : List ℕ) (lines others : List ScriptLine) → AreFirstLines text lines rest
    → AreFirstLines text others other
    → (lines ≡ others) × (rest ≡ other)
