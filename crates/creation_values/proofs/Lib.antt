-- Lemmas of this crate.
pub mod AttributeLaws
pub mod IdentifierLaws
mod NameFacts
mod OctetLaws
