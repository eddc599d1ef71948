pub mod ComponentLaws
pub mod FilterLaws
pub mod Fitting
mod FittingParts
mod StandardFacts
pub mod UnorderedLaws
