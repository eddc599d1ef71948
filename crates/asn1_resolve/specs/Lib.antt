-- The definitions that the contracts of this crate cite.
pub mod FaultSets
pub mod TypeFaults
pub mod AllFaults
pub mod ToldFaults
pub mod ModuleOrder
