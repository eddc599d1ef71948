pub mod NumberLaws
pub mod FormLaws
pub mod UnbuiltLaws
pub mod CommandLaws
mod StandardFacts
