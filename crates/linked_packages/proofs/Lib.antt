-- The lemmas of this crate.
pub mod PackageLaws
pub mod PackageTextLaws
pub mod AddedLaws
