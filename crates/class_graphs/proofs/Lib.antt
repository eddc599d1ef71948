-- The lemmas of this crate.
pub mod NamedLaws
pub mod RootLaws
pub mod DerivingLaws
pub mod FactLaws
pub mod EmptyLaws
mod StandardFacts
