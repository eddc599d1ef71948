-- The lemmas of this crate.
pub mod TakenLaws
pub mod PlacedLaws
pub mod PushLaws
pub mod InstanceLaws
