-- Locks on names, paths and read sets.
pub mod LockPath
pub mod Units
pub mod ReadSet
pub mod OperationLaws
pub mod PathLaws
pub mod Holdings
pub mod Invariant
pub mod CreationLaws
pub mod PathEnds
