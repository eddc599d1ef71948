-- The lemmas of this crate.
mod AlikeBack
mod CarriedNames
mod CarriedPackages
mod CarriedMembers
mod CarriedSections
pub mod AlikeRecords
pub mod OneSchemaLaws
pub mod WholeLaws
mod IdentifierLaws
mod NameLaws
mod ValueLaws
pub mod EncodableLaws
pub mod PlayLaws
pub mod IntegerLaws
pub mod IntegerTypes
pub mod IntegerPlays
