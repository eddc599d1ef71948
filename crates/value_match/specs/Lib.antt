-- The definitions that the contracts of this crate cite.
pub mod FirstEnd
pub mod FirstSizes
pub mod InTurn
pub mod LeafKeys
pub mod Marks
pub mod MemberKeys
pub mod MemberOrder
pub mod MemberPlaces
pub mod RisingMembers
pub mod SetMarks
pub mod SlotKeys
