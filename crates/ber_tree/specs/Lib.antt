-- The definitions that the contracts of this crate cite.
pub mod Integers
pub mod Reading
pub mod Subidentifiers
pub mod Writing
