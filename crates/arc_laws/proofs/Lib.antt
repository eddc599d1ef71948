-- The lemmas of this crate.
pub mod NumberTokens
pub mod Saying
pub mod Identifiers
pub mod TemplateIdentifiers
pub mod MemberIdentifiers
pub mod ClassIdentifiers
pub mod ValueArcs
pub mod DocumentIdentifiers
