-- Which entries the program can hold, and that different journals of them have different texts; docs/PROFILE.md,
-- section 5.
use Rattle.std.specs.Prelude.{◌≡◌, ℕ, ◌<◌, ◌^◌, List, ◌++◌, Some}
use Rattle.std.specs.List.{All}
use Rattle.hex.specs.Hex.{IsBytes}
use Rattle.agent_model.specs.declared.entry.Entry.{Entry}
use Rattle.agent_model.specs.declared.entry.Entry.TheVariants as entry
use Rattle.agent_model.specs.declared.entry.Why.{Why}
use Rattle.agent_model.specs.declared.entry.Why.TheVariants as why
use Rattle.term_model.specs.declared.name.Rdn.{Rdn}
use Rattle.agent_model.specs.LogNames.{log_in, log_octets}
use Rattle.agent_model.specs.Texts.{journal_text, separator}

-- a number of 64 bits
abbrev pub IsNumber : ℕ → Type 0
IsNumber number = number < 2 ^ 64

-- the place of a bad frame is a number of 64 bits
abbrev pub IsCause : Why → Type 0
IsCause (why.BadFrame at) = IsNumber at
IsCause _ = Unit {0}

-- the name of a log is the one that its octets tell
abbrev pub IsLog : List Rdn → Type 0
IsLog log = IsBytes (log_octets log) × (log_in (log_octets log) ≡ Some log)

-- each number has 64 bits, each octet has 8, and each log's name is told by its octets
abbrev pub IsEntry : Entry → Type 0
IsEntry (entry.Opened number bind) = IsNumber number × IsBytes bind
IsEntry (entry.Arrived number apdu) = IsNumber number × IsBytes apdu
IsEntry (entry.Begun number log) = IsNumber number × IsLog log
IsEntry (entry.Granted number moment) = IsNumber number × IsNumber moment
IsEntry (entry.Committed number) = IsNumber number
IsEntry (entry.Starved number) = IsNumber number
IsEntry (entry.Taken number count) = IsNumber number × IsNumber count
IsEntry (entry.Finished number) = IsNumber number
IsEntry (entry.Closed number cause) = IsNumber number × IsCause cause

-- different journals have different texts
abbrev pub TextsDiffer : Type 0
TextsDiffer = (xs ys : List Entry) → All IsEntry xs → All IsEntry ys → journal_text xs ≡ journal_text ys → xs ≡ ys

-- what `run` prints has one journal in front of the line of two dashes, and one text behind it
abbrev pub PrintTellsJournal : Type 0
PrintTellsJournal =
    (xs ys : List Entry) (r s : List ℕ) → All IsEntry xs → All IsEntry ys
    → journal_text xs ++ (separator ++ r) ≡ journal_text ys ++ (separator ++ s)
    → (xs ≡ ys) × (r ≡ s)
