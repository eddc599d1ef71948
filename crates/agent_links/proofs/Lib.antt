-- Lemmas of agent_links, and its definitions computed at examples.
pub mod ShareLemmas
pub mod SessionLemmas
mod StandardFacts
