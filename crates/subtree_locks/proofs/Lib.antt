pub mod Ends
pub mod Tables
pub mod Barring
mod StandardFacts
