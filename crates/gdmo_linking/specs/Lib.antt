-- The definitions that the contracts of this crate cite.
pub mod LinkedTables
pub mod LinkedNames
pub mod InRoles
pub mod Linkers
