-- The lemmas of this crate.
pub mod Tables
pub mod Apart
pub mod OptionalValues
pub mod Sections
pub mod OneSection
pub mod SameSections
pub mod StandardFacts
