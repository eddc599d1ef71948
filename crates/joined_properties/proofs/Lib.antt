mod GraphLaws
pub mod FactLaws
pub mod HeldLaws
pub mod ChainLaws
pub mod OwnLaws
pub mod GraphPlaces
pub mod SoundLaws
pub mod LocalLaws
pub mod KeptLaws
pub mod PassLaws
pub mod PutLaws
pub mod TurnLaws
pub mod ClosedLaws
mod StandardFacts
