-- The definitions that the contracts of this crate cite.
pub mod BegunMarks
pub mod FilterPlaces
pub mod PartNames
pub mod StatedNames
pub mod Walks
