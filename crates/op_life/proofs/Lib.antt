-- The lemmas of this crate.
pub mod AttemptLaws
pub mod MakingLaws
pub mod PlacingLaws
pub mod ValueLaws
