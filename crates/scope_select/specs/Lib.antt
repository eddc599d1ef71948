-- The definitions that the contracts of this crate cite.
pub mod Ranges
pub mod ScopeLaws
pub mod Subtrees
