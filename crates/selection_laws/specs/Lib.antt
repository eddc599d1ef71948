-- The laws that the contract of this crate states.
pub mod SelectionLaws
