-- The lemmas of this crate.
pub mod ArcLaws
pub mod DoubleLaws
pub mod FirstNameLaws
mod RegistrationLaws
pub mod SentenceLaws
mod TemplateLaws
