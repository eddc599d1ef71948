mod HaveLaws
mod LoopLaws
pub mod SetLaws
mod StandardFacts
