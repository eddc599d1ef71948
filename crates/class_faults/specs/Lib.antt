-- The definitions that the contracts of this crate cite.
pub mod AttributeSyntaxes
pub mod BadValues
pub mod CyclicClasses
pub mod CyclicFaults
pub mod FaultSets
pub mod FirstClassFault
pub mod NotedFaults
pub mod PackageFaults
pub mod PlaceFaults
pub mod StatedProperties
