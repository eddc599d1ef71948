-- The lemmas of this crate.
pub mod FiniteInduction
mod OrderLaws
mod RestLaws
mod NarrowLaws
mod SaidLaws
mod StandLaws
mod FormLaws
mod PlainLaws
mod NamedLaws
mod TermLaws
pub mod TypeLaws
