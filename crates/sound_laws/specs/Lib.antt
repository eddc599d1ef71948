-- The definitions that the lemmas of this crate cite.
pub mod GivenMeanings
pub mod ShortDefaults
