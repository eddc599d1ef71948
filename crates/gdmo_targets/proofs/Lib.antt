-- The lemmas of this crate.
pub mod LabelLaws
pub mod TableLaws
pub mod DoubleLaws
pub mod MeaningLaws
pub mod TargetLaws
pub mod TableFacts
pub mod ReferenceLaws
pub mod SectionLaws
pub mod PlaceLaws
pub mod GroupLaws
pub mod StatedLaws
pub mod StepFacts
