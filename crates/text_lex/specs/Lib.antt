-- The definitions that the contracts of this crate cite.
pub mod Octets
pub mod Comments
pub mod Lexemes
pub mod Pieces
pub mod Lexed
pub mod Slices
pub mod Laws
