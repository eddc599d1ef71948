-- The lemmas of this crate.
pub mod LinkLaws
pub mod MarkLaws
pub mod ReachLaws
mod StandardFacts
