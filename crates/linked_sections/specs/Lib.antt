-- The definitions that the contracts of this crate cite.
pub mod LinkedSections
pub mod KnownSections
pub mod SectionTexts
