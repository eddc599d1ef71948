-- The definitions that the contracts of this crate cite.
pub mod ClosedRecords
pub mod ClosingStates
