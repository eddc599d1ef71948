-- The lemmas of this crate.
mod BegunLaws
mod GivenLaws
mod ToldLaws
pub mod UnequalLaws
