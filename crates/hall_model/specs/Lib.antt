-- Locks along the agent's journal.
pub mod JournalMaps
pub mod JournalSound
