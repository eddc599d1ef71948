-- The lemmas of this crate.
pub mod BoundLaws
pub mod BehaviourLaws
mod StandardFacts
