-- The lemmas of this crate.
pub mod Texts
pub mod StandardFacts
pub mod FurtherFacts
pub mod BaseLaws
pub mod DenotedOnce
pub mod FaultlessLaws
pub mod FirstLaws
pub mod NamedLaws
pub mod NarrowingLaws
pub mod NumberLaws
pub mod PartsLaws
pub mod OneNumber
pub mod PassingLaws
pub mod SayingLaws
pub mod TableAnswers
pub mod TableLaws
pub mod WalkLaws
