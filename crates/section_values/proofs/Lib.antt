pub mod ReadingLaws
pub mod StepLaws
pub mod SectionLaws
