-- The lemmas of this crate.
pub mod MeaningLaws
pub mod BesideLaws
pub mod WholeSyntaxes
pub mod FoundKeys
pub mod LeadLaws
pub mod MemberTextLaws
pub mod PartLaws
pub mod WalkLaws
pub mod MeantKeys
pub mod AskedLaws
pub mod OneMeaningLaws
