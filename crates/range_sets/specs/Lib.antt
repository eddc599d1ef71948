pub mod RangeSets
pub mod RangeSteps
pub mod OneRest
