-- The definitions that the contracts of this crate cite.
pub mod Answers
pub mod Files
pub mod Refusing
pub mod Runnable
pub mod Statuses
