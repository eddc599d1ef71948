-- The lemmas of this crate.
pub mod TableLaws
pub mod MemberKinds
pub mod ClassKinds
mod MentionLaws
mod PartPlaces
mod PackageLaws
mod MemberLaws
mod PartLaws
mod LedLaws
pub mod StandingLaws
mod RuleLaws
mod TemplateBraces
mod MemberBraces
mod ClassBraces
pub mod DocumentBraces
pub mod ApartLaws
pub mod DocumentLaws
