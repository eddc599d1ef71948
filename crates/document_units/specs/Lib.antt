-- The definitions that the contracts of this crate cite.
pub mod UnitForms
pub mod UnitOutcome
pub mod DocumentForms
