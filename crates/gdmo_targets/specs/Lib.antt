-- The definitions that the contracts of this crate cite, beside those of gdmo_names.
pub mod SectionTables
pub mod GroupSteps
pub mod StatedRules
