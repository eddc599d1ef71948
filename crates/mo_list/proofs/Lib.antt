-- Lemmas of this crate.
pub mod ChangeLaws
pub mod FindingLaws
pub mod PlaceLaws
pub mod CutLaws
