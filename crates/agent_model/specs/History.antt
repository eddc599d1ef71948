-- The frames of an association in a journal; docs/PROFILE.md, section 7.
use Rattle.std.specs.Prelude.{ℕ, ◌==◌, List, Option, None, Some, if◌then◌else◌}
use Rattle.std.specs.List.{filter_map}
use Rattle.agent_model.specs.declared.entry.Entry.{Entry}
use Rattle.agent_model.specs.declared.entry.Entry.TheVariants as entry

-- what an association brought in an entry
abbrev pub brought : ℕ → Entry → Option (List ℕ)
brought number (entry.Opened a bind) = if a == number then Some bind else None
brought number (entry.Arrived a apdu) = if a == number then Some apdu else None
brought number _ = None

-- the frames of an association, in their order
abbrev pub came : ℕ → List Entry → List (List ℕ)
came number journal = filter_map (brought number) journal
