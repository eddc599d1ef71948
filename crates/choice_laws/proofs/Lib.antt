-- The lemmas of this crate.
mod TermChoices
mod TextChoices
mod ModuleChoices
pub mod ChoiceLaws
