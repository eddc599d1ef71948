-- The lemmas of this crate.
pub mod Places
pub mod Heads
pub mod Sequences
pub mod Turns
pub mod Clauses
pub mod ByWord
pub mod Endings
pub mod Tokens
pub mod Exits
pub mod Known
pub mod Parts
pub mod OpenParts
pub mod References
pub mod Values
pub mod StandardFacts
