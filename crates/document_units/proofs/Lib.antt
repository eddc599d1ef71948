pub mod UnitStops
pub mod OneUnit
pub mod UnitRows
mod UnitFacts
