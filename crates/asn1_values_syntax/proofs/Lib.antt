-- The lemmas of this crate.
pub mod Quiet
pub mod FirstTokens
pub mod Cases
pub mod BoundsApart
pub mod Rows
pub mod Values
pub mod Braces
pub mod Contents
pub mod OneValue
pub mod OneTree
pub mod Blind
pub mod BlindTable
pub mod ReadingLaws
pub mod BeginningLaws
pub mod StandardFacts
