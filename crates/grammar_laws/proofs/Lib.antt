-- The lemmas of this crate.
pub mod Fronts
pub mod Meeting
pub mod Turns
pub mod ClausesOnce
pub mod OneSpelling
pub mod TestLaws
pub mod Leading
pub mod GoingOn
pub mod StandardFacts
