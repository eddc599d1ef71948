pub mod MandatoryAttributes
pub mod Places
pub mod PropertyPlaces
pub mod Weights
