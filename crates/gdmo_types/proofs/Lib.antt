-- The lemmas of this crate.
pub mod StepLaws
pub mod RoleLaws
pub mod MentionLaws
pub mod TypeChainLaws
pub mod PlaceFaultLaws
pub mod ModuleNameLaws
pub mod QualifiedLaws
pub mod ComparedLaws
pub mod ComponentLaws
pub mod FieldLaws
pub mod TemplateFieldLaws
pub mod StandardFacts
