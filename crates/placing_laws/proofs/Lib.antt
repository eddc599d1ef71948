-- The lemmas of this crate.
pub mod PlaceCounts
pub mod SpellingCounts
pub mod TokenPlaces
pub mod TemplateLabels
pub mod MemberLabels
pub mod ClassLabels
pub mod UnitCounts
pub mod DocumentLabels
pub mod TreeRanges
pub mod SpellingRanges
pub mod TypeOrder
pub mod ModuleTypes
