-- The definitions that the contracts of this crate cite.
pub mod BadSections
pub mod RegisteredSections
pub mod SectionRecords
pub mod ToldSections
