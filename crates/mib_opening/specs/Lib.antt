-- The definitions that the contracts of this crate cite.
pub mod Counting
pub mod LogOrder
pub mod Refusals
pub mod Walks
