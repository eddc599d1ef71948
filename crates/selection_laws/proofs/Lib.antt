-- That the list of the names that are selected is the set of them.
pub mod SelectionLaws
