-- The definitions that the contracts of this crate cite.
pub mod Leading
pub mod Walking
pub mod Finishing
pub mod Turning
pub mod Marking
pub mod Cycles
pub mod ChainEnds
