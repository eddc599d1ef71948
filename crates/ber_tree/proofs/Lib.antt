pub mod Answering
pub mod Backwards
pub mod Extending
pub mod HeaderSteps
pub mod IdentifierSteps
pub mod IntegerLaws
pub mod IntegerReading
pub mod ReadingSteps
mod StandardFacts
pub mod SubidentifierLaws
pub mod WritingLaws
