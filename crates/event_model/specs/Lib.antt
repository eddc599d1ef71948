-- The definitions that the contracts above this crate cite.
pub mod Appends
pub mod Discriminators
pub mod EventAttributes
pub mod EventRecords
pub mod HeldRecords
pub mod LabelledValues
pub mod LogSelection
pub mod NotificationShapes
pub mod Passing
pub mod ReportAttributes
pub mod SourceEvents
