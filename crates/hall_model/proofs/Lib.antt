pub mod JournalMaps
pub mod JournalSound
mod StandardFacts
