-- The lemmas of this crate.
mod WalkLaws
mod RankLaws
mod ClassPlaces
pub mod OrderLaws
