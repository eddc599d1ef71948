-- The definitions that the contracts of this crate cite.
pub mod NumberedLists
pub mod ListPlaces
pub mod TypeKeys
pub mod KeyNumbers
pub mod ComponentKeys
