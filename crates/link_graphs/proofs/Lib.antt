-- Lemmas of this crate.
pub mod PlaceLaws
pub mod LeadingLaws
pub mod WalkLaws
pub mod StepLaws
pub mod MeasureLaws
pub mod TurnLaws
pub mod MarkLaws
pub mod OrderLaws
pub mod ChainLaws
mod StandardFacts
