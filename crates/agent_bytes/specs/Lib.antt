-- The definitions that the contracts of agent_bytes cite.
pub mod Faults
pub mod Told
pub mod Memory
