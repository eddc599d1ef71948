-- The definitions that the contracts of this crate cite.
pub mod NamedLinks
pub mod ClassLinks
pub mod ClassGraphs
