pub mod ContentsLaws
pub mod Faults
pub mod LengthLaws
pub mod NumberLaws
pub mod OidLaws
pub mod ReadingLaws
pub mod Spelled
mod StandardFacts
pub mod Statements
pub mod TagLaws
mod TreeFacts
pub mod WrittenLaws
mod StandardFactsMatching
mod StandardFactsPdus
mod StandardFactsTimes
mod StandardFactsValues
pub mod RisingLaws
pub mod SameLaws
pub mod ComponentLaws
pub mod IntegerLaws
pub mod LengthCounts
pub mod LengthSigns
