-- The lemmas of this crate.
pub mod KnowingLaws
pub mod ListEnds
pub mod SettlingLaws
pub mod StartLaws
pub mod StatusLaws
pub mod TryingLaws
pub mod WeighingLaws
