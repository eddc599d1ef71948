-- Lemmas of this crate.
pub mod Installed
pub mod OutcomeLaws
pub mod Staying
