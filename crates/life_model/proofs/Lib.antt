-- The examples of this crate's definitions.
pub mod ExampleElements
mod DeletionFacts
mod NamingFacts
mod StandardFacts
