-- The lemmas of this crate.
mod PlaceLaws
mod PairLaws
mod RootLaws
