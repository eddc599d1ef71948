mod AdmittingLaws
mod AskingLaws
mod EntryLaws
mod PerformingLaws
mod StandardFacts
