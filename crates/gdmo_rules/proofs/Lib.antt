-- The lemmas of this crate.
pub mod LabelledLaws
pub mod TypeFaultLaws
pub mod StepTypeLaws
pub mod StepNameLaws
pub mod JudgedLaws
pub mod StandardFacts
