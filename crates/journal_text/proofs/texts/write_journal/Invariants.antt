use Rattle.std.proofs.Common.{◌≡◌, ◌++◌, take}
use Rattle.std.specs.List.{flat_map}
use Rattle.agent_model.specs.Texts.{line}
use Rattle.journal_text.proofs.texts.write_journal.Given as goal

-- the lines of the entries so far were appended
abbrev pub invariant-loop-entry : goal.invariant-loop-entry
invariant-loop-entry l = l.into.items ≡ l.fn.into.items ++ flat_map line (take l.entry-index l.journal)
