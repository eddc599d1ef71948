-- The lemmas of this crate.
pub mod DecidingLaws
mod TextPaths
mod FilledAlike
mod DefaultLaws
pub mod TypeLaws
pub mod AttributeLaws
mod ComponentLaws
mod InformationLaws
mod FieldLaws
pub mod WholeLaws
