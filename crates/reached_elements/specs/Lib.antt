-- The definitions that the contracts of this crate cite.
pub mod Linking
pub mod MarkedSets
pub mod Reaching
