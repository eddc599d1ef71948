-- What the contracts of this crate cite beside the definitions of term_model.
pub mod GetSteps
pub mod GroupSets
pub mod IdSets
