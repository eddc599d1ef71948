-- The definitions that the laws of this crate cite.
pub mod IntegerDocuments
pub mod IntegerModules
pub mod ShortStated
