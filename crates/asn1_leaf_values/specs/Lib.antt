-- The definitions that the contracts of this crate cite.
pub mod TextValues
pub mod Bits
pub mod Literals
pub mod Arcs
pub mod FirstNames
pub mod LeafTexts
