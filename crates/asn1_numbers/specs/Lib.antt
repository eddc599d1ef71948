-- The definitions that the contracts of this crate cite.
pub mod NumberedTypes
pub mod NamedTargets
pub mod NumberedBases
pub mod NumberedValues
pub mod AreNumbers
