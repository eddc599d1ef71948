-- The definitions that the contracts of this crate cite.
pub mod ApduLaws
pub mod Cutting
pub mod Framing
