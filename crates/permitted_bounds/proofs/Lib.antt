-- The lemmas of this crate.
pub mod LeftLaws
pub mod EmptyLaws
