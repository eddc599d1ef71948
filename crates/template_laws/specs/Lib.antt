-- The law that the contract of this crate cites.
pub mod OneTemplate
