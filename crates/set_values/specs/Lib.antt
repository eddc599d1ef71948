-- The definitions that the contracts of this crate cite.
pub mod EncodingSets
pub mod MemberLaws
pub mod MembersByValue
pub use Rattle.term_values.specs.SetMembers
