-- The lemmas of this crate.
pub mod BegunLaws
pub mod DefaultLaws
pub mod GoingLaws
pub mod ListedLaws
pub mod MeantLaws
pub mod ModuleLaws
pub mod NumberLaws
pub mod SectionLaws
pub mod StandardFacts
pub mod StatedLaws
