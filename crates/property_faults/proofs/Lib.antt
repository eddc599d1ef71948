-- The lemmas of this crate.
pub mod ClassLaws
pub mod EntryLaws
pub mod HeldLaws
pub mod LeftLaws
pub mod NotedLaws
pub mod PermittedLaws
pub mod PlacedTypes
mod StandardFacts
pub mod StatedLaws
pub mod UnequalLaws
pub mod ValueLaws
