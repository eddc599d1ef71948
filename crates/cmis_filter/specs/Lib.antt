-- The definitions that the contracts of this crate cite.
pub mod Comparisons
pub mod Rising
pub mod TreeLimits
pub mod TruthLaws
