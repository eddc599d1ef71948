-- The lemmas of this crate.
pub mod Announced
pub mod Digits
pub mod Ends
pub mod NumeralLaws
pub mod Once
pub mod Pieces
pub mod Reading
pub mod Slices
pub mod StandardFacts
