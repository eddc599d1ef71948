-- What the answers of this crate say.
pub mod Arrivals
pub mod Bringing
