-- The definitions that the contracts of the crates above cite.
pub mod AllFaults
pub mod ReadTexts
