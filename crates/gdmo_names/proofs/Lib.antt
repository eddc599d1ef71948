-- The lemmas of this crate.
pub mod Texts
pub mod StandardFacts
pub mod FurtherFacts
pub mod TypeFacts
pub mod RuleFacts
pub mod FaultFacts
pub mod NameFacts
pub mod NotingLaws
pub mod InStepLaws
pub mod FindingLaws
pub mod ShapeLaws
pub mod PlacedLaws
