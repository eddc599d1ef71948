-- The lemmas of this crate.
pub mod MeaningLaws
mod SortLaws
mod TableLaws
mod TemplateLaws
pub mod WantedLaws
mod InstanceLaws
pub mod DocumentLaws
