-- What is proved apart from the code.
pub mod NameParts
pub mod RowLaws
pub mod StandardFacts
