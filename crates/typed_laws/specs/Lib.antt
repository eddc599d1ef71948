-- The laws that the contracts of this crate cite, and their words.
pub mod Distinct
pub mod FilterLaws
pub mod Nesting
pub mod ReadingLaws
pub mod SyntaxTags
pub mod TreeOctets
pub mod WritingLaws
