-- The lemmas of this crate.
pub mod PlaceLaws
mod AttributeLaws
mod FixedLaws
pub mod SchemaLaws
pub mod ReferenceLaws
