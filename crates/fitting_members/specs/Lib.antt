-- The definitions that the contracts of this crate cite.
pub mod Changing
pub mod MemberLengths
pub mod MemberPlaces
pub mod MemberTests
pub mod TakingBack
