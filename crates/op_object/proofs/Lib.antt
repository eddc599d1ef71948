pub mod GetLaws
pub mod PackageLaws
