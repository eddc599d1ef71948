-- Lemmas.
pub mod PassLaws
pub mod RightLaws
mod RollLaws
pub mod RuleSteps
pub mod SeenLaws
mod StandardFacts
