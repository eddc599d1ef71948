pub mod GatheringLaws
pub mod DocumentLaws
mod StandardFacts
