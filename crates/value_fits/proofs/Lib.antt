pub mod FitLaws
mod KeptLaws
mod LeafLaws
mod LoopLaws
mod StandardFacts
