-- The lemmas of this crate.
pub mod FirstTokens
pub mod Apart
pub mod Members
pub mod WithClauses
pub mod Alternatives
pub mod Values
pub mod MemberValues
pub mod FurtherValues
pub mod SameTrees
pub mod FurtherSameTrees
pub mod StandardFacts
pub mod TemplateFacts
