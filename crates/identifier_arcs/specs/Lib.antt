-- The definitions that the contracts of this crate cite.
pub mod ArcTexts
pub mod Chains
pub mod KnownArcs
