-- The definitions that the contracts of this crate cite.
pub mod OwnStatements
pub mod ReachedStatements
pub mod HeldNumbers
pub mod NumberSummaries
pub mod ClassProperties
pub mod SameTables
pub mod StatementChains
pub mod JoiningSteps
