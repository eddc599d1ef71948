pub mod Knowing
pub mod Settling
pub mod StatusPlaces
pub mod Trying
