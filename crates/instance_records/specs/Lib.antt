-- The definitions that the contracts of this crate cite.
pub mod InstanceRecords
pub mod KnownRecords
pub mod RegisteredInstances
