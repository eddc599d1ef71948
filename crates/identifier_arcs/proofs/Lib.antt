-- The lemmas of this crate.
pub mod ChainLaws
mod ArcRowLaws
pub mod KnownLaws
