-- What an m-Action and an m-EventReport do to one object: X.711, section 7; docs/PROFILE.md, section 15.
pub mod ActionEffect
pub mod ActionRules
pub mod Arguments
pub mod OfferedTypes
pub mod ReportEffect
pub mod RuleSteps
