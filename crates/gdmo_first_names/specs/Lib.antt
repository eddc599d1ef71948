-- The definitions that the contracts of this crate cite.
pub mod DefinedNames
pub mod IdentifierTypes
pub mod ReadModules
