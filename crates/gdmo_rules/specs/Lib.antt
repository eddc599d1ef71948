-- The definitions that the contracts of this crate cite.
pub mod TakenViews
pub mod AttributeLabels
pub mod TypeFaults
pub mod StepFaults
pub mod NamingFaults
pub mod FaultsOfSteps
