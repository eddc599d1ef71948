-- What whole operations do: X.711, section 7.5.
pub mod LinkedReplies
pub mod OperationChecks
pub mod OperationConditions
pub mod WholeOperation
