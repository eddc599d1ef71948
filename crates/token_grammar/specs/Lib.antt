-- The definitions that the contracts of this crate cite.
pub mod Kinds
pub mod TokenTests
pub mod StringTexts
pub mod Form
pub mod Spelling
pub mod Beginning
pub mod Outcome
pub mod Turns
pub mod Parts
pub mod PartLaws
