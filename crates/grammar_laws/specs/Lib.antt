-- The laws that the contracts of this crate cite, and their words.
pub mod Opening
pub mod Decided
