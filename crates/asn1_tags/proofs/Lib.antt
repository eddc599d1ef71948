-- The lemmas of this crate.
pub mod StandardFacts
pub mod MemberLists
pub mod NamedTypes
pub mod CountLaws
pub mod TagLaws
pub mod BeginLaws
pub mod NodeLaws
pub mod RunLaws
pub mod ClashLaws
pub mod ShareLaws
pub mod AmbiguityLaws
pub mod FactLaws
pub mod OrderedFacts
