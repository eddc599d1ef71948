-- The definitions that the contracts of this crate cite.
pub mod GoodObjects
pub mod Ready
pub mod Scripts
pub mod Watching
