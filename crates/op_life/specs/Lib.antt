-- The definitions that the contracts of this crate cite.
pub mod AskingView
pub mod Attempting
pub mod Effecting
pub mod Filling
pub mod Making
pub mod Placing
pub mod Referring
