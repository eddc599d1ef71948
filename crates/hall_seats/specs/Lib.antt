-- The definitions that the contracts of this crate cite.
pub mod Namings
pub mod Passes
pub mod Rights
pub mod Rule
pub mod Views
