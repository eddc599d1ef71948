-- The definitions that the lemmas of this crate cite.
pub mod NamedAttributes
