-- The definitions that the contracts of this crate cite.
pub mod Appending
pub mod Components
pub mod Left
pub mod MemberOrder
pub mod Pieces
