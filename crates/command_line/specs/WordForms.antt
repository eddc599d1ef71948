-- WordForms: the forms of the words of a command line, which are places: docs/OPERATING.md, Commands.
use Rattle.std.specs.Prelude.{◌≡◌, ◌≢◌, ◌≤◌, ℕ, List, [], ◌∷◌, Option, None, Some, codes, decimal, length, map}
use Rattle.std.specs.Prelude.{slice_index, string_bytes}
use Rattle.std.specs.List.{All}
use Rattle.command_line.specs.declared.forms.Command.{Command as ReadCommand}
use Rattle.command_line.specs.declared.forms.Command.TheVariants as read

-- a word that may stand in a place doesn't begin with a hyphen
abbrev pub IsPlace : List ℕ → Type 0
IsPlace word = slice_index word 0 ≢ 45

-- the names of 1 to 64 documents
pub record AreNames (names : List (List ℕ)) : Type 0 where
  pub some : 1 ≤ length names
  pub few : length names ≤ 64
  pub places : All IsPlace names

-- a number within two others, in decimal digits without a sign and without zeros before them
pub record IsNumberIn (low high : ℕ) (word : List ℕ) : Type 0 where
  pub number : ℕ
  pub spelt : word ≡ decimal number
  pub from : low ≤ number
  pub to : number ≤ high

-- a place, and the names of documents behind it
pub record ArePlaceAndNames (first : List ℕ) (names : List (List ℕ)) : Type 0 where
  pub place : IsPlace first
  pub are_names : AreNames names

-- the commands, each with the words in its places
pub data Command : Type 0 where
  Check : List (List ℕ) → Command
  Report : List (List ℕ) → Command
  Run : List ℕ → List (List ℕ) → Command
  Replay : List ℕ → List (List ℕ) → Command
  Serve : List ℕ → List ℕ → List ℕ → List (List ℕ) → Command
  Load : List ℕ → List ℕ → Command

-- check DOC..; report DOC..; run SCRIPT DOC..; replay JOURNAL DOC..; serve ADDR SESSIONS WORKERS DOC..; load SEED COUNT
abbrev pub words_of : Command → List (List ℕ)
words_of (Check names) = codes "check" ∷ names
words_of (Report names) = codes "report" ∷ names
words_of (Run script names) = codes "run" ∷ (script ∷ names)
words_of (Replay journal names) = codes "replay" ∷ (journal ∷ names)
words_of (Serve address sessions workers names) = codes "serve" ∷ (address ∷ (sessions ∷ (workers ∷ names)))
words_of (Load seed count) = codes "load" ∷ (seed ∷ (count ∷ []))

-- what is asked of the words in the places: 1 to 10,000 sessions, 1 to 32 workers, a seed of 64 bits, a count of 1 to
-- 100,000
abbrev pub IsCommand : Command → Type 0
IsCommand (Check names) = AreNames names
IsCommand (Report names) = AreNames names
IsCommand (Run script names) = ArePlaceAndNames script names
IsCommand (Replay journal names) = ArePlaceAndNames journal names
IsCommand (Serve address sessions workers names) = ArePlaceAndNames address names × IsNumberIn 1 10000 sessions
    × IsNumberIn 1 32 workers
IsCommand (Load seed count) = IsNumberIn 0 18446744073709551615 seed × IsNumberIn 1 100000 count

-- the words are those of a command
abbrev pub AreWordsOf : List (List ℕ) → Command → Type 0
AreWordsOf words command = (words ≡ words_of command) × IsCommand command

-- they are in no form
abbrev pub AreInNoForm : List (List ℕ) → Type 0
AreInNoForm words = (command : Command) → AreWordsOf words command → ⊥

-- the commands that aren't built
pub data IsUnbuilt : Command → Type 0 where
  replay : {journal : List ℕ} {names : List (List ℕ)} → IsUnbuilt (Replay journal names)
  serve : {address sessions workers : List ℕ} {names : List (List ℕ)} →
      IsUnbuilt (Serve address sessions workers names)
  load : {seed count : List ℕ} → IsUnbuilt (Load seed count)

pub record AreUnbuilt (words : List (List ℕ)) : Type 0 where
  pub command : Command
  pub are : AreWordsOf words command
  pub unbuilt : IsUnbuilt command

-- words that begin so
pub data Begins (First : List ℕ → Type 0) (Rest : List (List ℕ) → Type 0) : List (List ℕ) → Type 0 where
  begun : {first : List ℕ} {rest : List (List ℕ)} → First first → Rest rest → Begins First Rest (first ∷ rest)

abbrev pub HasPlaceAndNames : List (List ℕ) → Type 0
HasPlaceAndNames words = Begins IsPlace AreNames words

abbrev pub HasWorkersAndNames : List (List ℕ) → Type 0
HasWorkersAndNames words = Begins (IsNumberIn 1 32) AreNames words

abbrev pub HasSharesAndNames : List (List ℕ) → Type 0
HasSharesAndNames words = Begins (IsNumberIn 1 10000) HasWorkersAndNames words

abbrev pub HasServeWords : List (List ℕ) → Type 0
HasServeWords words = Begins IsPlace HasSharesAndNames words

abbrev pub HasCount : List (List ℕ) → Type 0
HasCount words = Begins (IsNumberIn 1 100000) (λ rest. rest ≡ []) words

abbrev pub HasLoadWords : List (List ℕ) → Type 0
HasLoadWords words = Begins (IsNumberIn 0 18446744073709551615) HasCount words

-- what is read of words
abbrev pub Reads : List (List ℕ) → Option ReadCommand → Type 0
Reads words None = AreInNoForm words
Reads words (Some (read.Check names)) = AreWordsOf words (Check (map string_bytes names.now))
Reads words (Some (read.Report names)) = AreWordsOf words (Report (map string_bytes names.now))
Reads words (Some (read.Run script names)) = AreWordsOf words (Run script.now (map string_bytes names.now))
Reads words (Some read.Unbuilt) = AreUnbuilt words
