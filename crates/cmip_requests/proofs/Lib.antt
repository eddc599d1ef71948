-- What is proved apart from the code.
pub mod StandardFacts
