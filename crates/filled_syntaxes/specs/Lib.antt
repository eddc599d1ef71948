-- The definitions that the contracts of this crate cite.
pub mod AssignedValues
pub mod BadAssignments
pub mod BadDefaults
pub mod FilledSyntaxes
pub mod JudgedAssignments
pub mod KnownThings
pub mod LinkedMeanings
pub mod NotedTexts
pub mod SaidTexts
pub mod WrittenDefaults
