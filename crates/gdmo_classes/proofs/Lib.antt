-- The lemmas of this crate.
pub mod OpenClauses
pub mod PartEnds
pub mod Values
pub mod Modifiers
pub mod Boxed
pub mod UseValues
pub mod TemplateValues
pub mod SameUses
pub mod SameTemplates
pub mod StandardFacts
pub mod TemplateFacts
