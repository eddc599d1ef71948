-- The definitions that the contracts of this crate cite.
pub mod Acceptance
pub mod Counting
pub mod Lines
pub mod DocumentFaults
