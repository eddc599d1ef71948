mod StandardFacts
pub mod Causes
pub mod Endings
pub mod SameFiles
pub mod PlayableLaws
pub mod DoneLaws
pub mod ReadingLaws
pub mod LineLaws
