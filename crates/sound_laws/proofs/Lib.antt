-- The lemmas of this crate.
mod TagLists
mod StandardTags
mod PlaceLaws
mod StandardNames
mod BeginningLaws
mod ApartLaws
pub mod ClearLaws
pub mod GivenLaws
mod FilledTags
mod StandingTexts
mod FilledApart
pub mod FilledClear
pub mod FilledFits
pub mod SoundLaws
