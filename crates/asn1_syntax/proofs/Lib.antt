-- The lemmas of this crate.
pub mod Apart
pub mod TypeApart
pub mod ModuleApart
pub mod Rows
pub mod PlainValues
pub mod TypeValues
pub mod ModuleValues
pub mod TypeSameTrees
pub mod ModuleSameTrees
