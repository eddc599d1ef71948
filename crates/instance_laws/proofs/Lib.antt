-- The lemmas of this crate.
mod PairLaws
pub mod InstanceLaws
