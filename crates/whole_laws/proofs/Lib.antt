-- The lemmas of this crate.
mod ClassLaws
pub mod WholeLaws
