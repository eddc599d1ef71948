-- The definitions that the contracts of this crate cite.
pub mod ToldFacts
pub mod KnownFacts
pub mod MemberRows
pub mod GatheredTags
pub mod TagRuns
pub mod DraftFacts
