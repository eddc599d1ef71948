-- The lemmas of this crate.
mod OnceLaws
mod MeaningLaws
mod PackageLaws
mod MemberLaws
mod SectionLaws
mod CarriedLaws
mod JoinedLaws
pub mod SameLaws
pub mod OneSchema
