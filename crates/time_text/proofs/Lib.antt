-- Lemmas of this crate.
pub mod DateLaws
pub mod MomentLaws
pub mod SameLaws
