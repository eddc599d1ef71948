-- The definitions that the contracts of this crate cite.
pub mod Denoted
pub mod Filters
pub mod Steps
pub mod Components
