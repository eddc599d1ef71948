-- The lemmas of this crate.
pub mod DecidingLaws
mod BoundLaws
pub mod ListLaws
pub mod UseLaws
pub mod TemplateLaws
mod RecordLaws
mod PropertyLaws
mod JoinedLaws
mod AboveLaws
mod ReachedLaws
mod FillingLaws
pub mod StatedLaws
