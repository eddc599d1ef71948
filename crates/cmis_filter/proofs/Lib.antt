pub mod AskedLaws
pub mod FilterLaws
pub mod FormLaws
pub mod HalvesLaws
pub mod LimitLaws
pub mod MatchLaws
pub mod PartCounts
pub mod ReadingLaws
pub mod SearchLaws
pub mod TagTests
mod TreeLimitFacts
