-- The lemmas of this crate.
mod SectionSteps
pub mod ReadParts
