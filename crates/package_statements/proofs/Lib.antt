pub mod ValueLaws
pub mod StatementLaws
pub mod FaultLaws
mod StandardFacts
