-- The definitions that the contracts of this crate cite.
pub mod BegunLaw
pub mod DefaultNames
pub mod MeantSyntaxes
pub mod ModuleValues
pub mod SectionValues
