pub mod AgentValues
pub mod Built
pub mod Counts
pub mod Creations
pub mod Elsewhere
mod EncodableFacts
pub mod EncodingLengths
pub mod Full
pub mod FullLogs
pub mod Good
pub mod GoodNames
pub mod Held
pub mod Kept
pub mod AttributeKinds
pub mod Listed
pub mod Made
pub mod Making
mod NestingLaws
pub mod Objects
pub mod RecordSizes
pub mod Steps
pub mod Tested
pub mod Whole
