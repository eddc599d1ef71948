-- The definitions that the contracts of this crate cite.
pub mod BegunFirst
pub mod GivenArcs
pub mod ToldNames
pub mod UnequalNames
