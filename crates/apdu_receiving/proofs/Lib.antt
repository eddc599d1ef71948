-- What is proved apart from the code.
pub mod InUse
pub mod ReadFilters
pub mod StandardFacts
pub mod Steps
