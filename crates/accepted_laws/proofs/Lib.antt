-- The lemmas of this crate.
mod ListTerms
mod ValueTerms
mod TypeTerms
mod ModuleLaws
mod MemberTerms
mod ClassTerms
mod SectionTerms
pub mod UnitTerms
pub mod DocumentTerms
mod LinkLaws
mod FirstNameLaws
mod StepValues
mod AlikeTemplates
mod AlikeMembers
pub mod AlikeSections
pub mod AlikeClasses
pub mod AlikeValues
pub mod FaultLaws
mod ToldFaults
pub mod AcceptedLaws
pub mod OneFaultLaws
