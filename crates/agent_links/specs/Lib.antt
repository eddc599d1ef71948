-- The definitions that the contracts of agent_links cite.
pub mod Shares
pub mod Sessions
pub mod Memory
pub mod ShareLaws
