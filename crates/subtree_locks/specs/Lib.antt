-- The lock table.
pub mod LockRows
pub mod Grants
