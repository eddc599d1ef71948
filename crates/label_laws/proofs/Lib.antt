-- The lemmas of this crate.
pub mod UnionLaws
pub mod CompleteLaws
