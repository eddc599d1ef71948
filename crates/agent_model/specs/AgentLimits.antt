-- How much the program's agent holds at the most: entries of its journal, bytes of the journal's text (512 MiB), bytes
-- that are placed for an association and not taken (16 MiB), and associations that are not closed; docs/PROFILE.md,
-- section 7.
use Rattle.agent_model.specs.declared.limits.Limits.{Limits}

abbrev pub shipped : Limits
shipped = record { entries = 4000000; text = 536870912; untaken = 16777216; associations = 128 }
