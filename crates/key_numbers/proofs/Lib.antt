-- The lemmas of this crate.
pub mod ListLaws
pub mod TakenLaws
pub mod SketchLaws
pub mod KeyLaws
pub mod BuildingLaws
pub mod QueryLaws
pub mod NameLaws
pub mod StandardFacts
