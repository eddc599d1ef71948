-- The definitions that the contracts of this crate cite.
pub mod ResultLaws
pub mod ResultOctets
