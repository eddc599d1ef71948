-- The lemmas of this crate.
pub mod TextLaws
pub mod OwnLaws
pub mod DefinedLaws
pub mod IdentifierLaws
pub mod NameSteps
