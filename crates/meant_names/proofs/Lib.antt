-- The lemmas of this crate.
pub mod NoneLaws
pub mod TextTrees
pub mod TextLaws
pub mod FillLaws
pub mod MeaningLaws
pub mod NamedLaws
pub mod AttributeLaws
pub mod MeantLaws
