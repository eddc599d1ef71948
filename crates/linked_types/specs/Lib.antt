-- The definitions that the contracts of this crate cite.
pub mod AttributeRules
pub mod AttributeTypes
pub mod KnownParts
pub mod NotedDefaults
pub mod PartIdentifiers
pub mod PartTypes
pub mod RuleSteps
pub mod TypeTables
