-- The lemmas of this crate.
pub mod BoundLaws
pub mod NamingLaws
pub mod PlaceLaws
pub mod WeightLaws
