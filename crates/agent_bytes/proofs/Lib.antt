-- Lemmas of agent_bytes, and its definitions computed at examples.
pub mod GivenLemmas
pub mod ToldLemmas
mod StandardFacts
