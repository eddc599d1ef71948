-- The lemmas of this crate.
pub mod FilterLaws
pub mod MarkLaws
pub mod MayLaws
pub mod PartLaws
pub mod StatedLaws
pub mod SyntaxLaws
pub mod WalkLaws
