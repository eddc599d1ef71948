-- The lemmas of this crate.
mod ValueLaws
mod StatedSteps
mod ActionTypes
mod WholeNumbers
mod TypedLaws
mod StepTypes
mod StepLaws
pub mod RuleLaws
