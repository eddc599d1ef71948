-- The definitions that the contracts of this crate cite.
pub mod Refusals
pub mod RunCauses
pub mod ScriptRuns
