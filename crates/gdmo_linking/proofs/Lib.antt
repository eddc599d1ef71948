-- The lemmas of this crate.
pub mod StandardFacts
pub mod StepLaws
pub mod RoleLaws
pub mod LinkLaws
pub mod KindLaws
pub mod CountLaws
pub mod NameLaws
pub mod PlaceLaws
