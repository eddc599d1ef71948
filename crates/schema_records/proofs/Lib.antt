-- Lemmas of this crate.
mod RecordFacts
pub mod EachLaws
pub mod TypeLaws
pub mod AttributeLaws
pub mod PlaceLaws
pub mod PropertyLaws
pub mod StatedLaws
pub mod ClassLaws
pub mod ModelLaws
pub mod JoinedLaws
