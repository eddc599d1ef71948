-- The lemmas of this crate.
pub mod DoneLaws
pub mod InheritLaws
pub mod LabelLaws
pub mod OrderLaws
mod StandardFacts
pub mod StepLaws
pub mod TextLaws
