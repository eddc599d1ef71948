-- What the creation and the deletion of one object do: X.711, section 7.4.
pub mod AutomaticNames
pub mod ChosenCreation
pub mod CreateRequest
pub mod Deletion
pub mod Subtrees
