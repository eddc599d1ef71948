-- The definitions that the contracts of this crate cite.
pub mod NamedValues
pub mod PackageStatements
pub mod StatedFaults
pub mod UseFaults
