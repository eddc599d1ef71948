-- The definitions that the contracts of this crate cite.
pub mod MeaningKeys
pub mod MarkedKeys
pub mod PlacedTerms
pub mod KeysBeside
pub mod TextLeads
pub mod AskedTypes
pub mod OneMeaning
