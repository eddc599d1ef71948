-- What is proved of this crate's definitions.
pub mod StandingLaws
pub mod MeantLaws
pub mod TargetLaws
pub mod MemberRows
pub mod EachLaws
pub mod LeadingLaws
pub mod HeldLaws
pub mod BaseLinkLaws
pub mod ValueLaws
pub mod ValueLinkLaws
pub mod BaseLaws
pub mod FoundLaws
pub mod StandardFacts
