-- The definitions that the contracts of this crate cite.
pub mod Admitting
pub mod Answering
pub mod Asking
pub mod States
