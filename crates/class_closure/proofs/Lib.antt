pub mod ClosingLaws
mod MeantLaws
mod UnequalLaws
