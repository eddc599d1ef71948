-- The lemmas of this crate.
mod ResolvingLaws
