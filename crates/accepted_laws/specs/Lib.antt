-- The definitions that the laws of this crate speak of.
pub mod AlikeParts
