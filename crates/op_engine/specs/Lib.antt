-- The definitions that the contracts of this crate cite.
pub mod Acting
pub mod Planning
pub mod Plans
pub mod Selecting
