-- The definitions that the contracts of this crate cite.
pub mod BuiltSyntaxes
pub mod CountedTypes
pub mod FollowedNames
pub mod MeasuredTypes
pub mod NextTypes
pub mod OneDefault
pub mod SoughtDefaults
pub mod ToldMeanings
