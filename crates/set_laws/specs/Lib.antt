-- The laws that the contracts of this crate cite.
pub mod KeptMaps
pub mod ModificationLaws
