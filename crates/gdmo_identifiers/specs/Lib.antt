-- The definitions that the contracts of this crate cite.
pub mod IdentifierFaults
pub mod IdentifierTables
pub mod Registrations
