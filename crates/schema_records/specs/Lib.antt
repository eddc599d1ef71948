-- The definitions of this crate.
pub mod RegisteredParts
pub mod ApartParts
pub mod MeantParts
pub mod PropertyRecords
pub mod KnownPackages
pub mod ClassRecords
pub mod MemberRecords
pub mod AddedRecords
