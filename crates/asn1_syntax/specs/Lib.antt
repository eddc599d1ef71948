-- The definitions that the contracts of this crate cite.
pub mod PlainTrees
pub mod PresenceTree
pub mod TypeTrees
pub mod ModuleTrees
pub mod TypeAgreement
pub mod ModuleAgreement
