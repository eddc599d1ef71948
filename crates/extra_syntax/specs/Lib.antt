-- The definitions that the contracts of this crate cite.
pub mod SectionForms
pub mod SectionEnds
pub mod SectionTrees
pub mod Agreement
