-- The definitions that the contracts of this crate cite.
pub mod RoleTargets
pub mod AttributeTypes
pub mod TypeChains
pub mod Linkages
pub mod ComparedTypes
pub mod PlaceFaults
pub mod ModuleNames
pub mod QualifiedFaults
pub mod FieldFaults
