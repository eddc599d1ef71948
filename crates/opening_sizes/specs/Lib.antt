-- The law that the contract of this crate states.
pub mod OpeningSizes
