-- The definitions that the contracts of this crate cite.
pub mod LinkedTemplates
pub mod LinkedMembers
pub mod MemberTexts
pub mod TemplateTables
