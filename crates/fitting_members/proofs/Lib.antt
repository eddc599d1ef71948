-- Lemmas of this crate.
pub mod ChangeLaws
pub mod FitLaws
pub mod MemberLaws
pub mod PlaceLaws
mod StandardFacts
pub mod UndoLaws
