-- The definitions that the contracts of this crate cite.
pub mod ClassForms
pub mod UseTrees
pub mod PackageTrees
pub mod ClassTrees
pub mod BindingTrees
pub mod TemplateTree
pub mod Agreement
