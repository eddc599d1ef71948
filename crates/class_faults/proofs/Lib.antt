mod ClassFacts
pub mod CyclicLaws
pub mod NotingLaws
pub mod PlaceFaultLaws
