-- The lemmas of this crate.
pub mod FirstFaults
pub mod NameLaws
pub mod ImportLaws
pub mod ConstraintLaws
pub mod TypeLaws
pub mod RowLaws
pub mod NodeLaws
pub mod PlaceLaws
pub mod AssignmentLaws
pub mod FoundFaults
pub mod NotedFaults
pub mod StandardFacts
