pub mod BaseLaws
pub mod BelowLaws
pub mod EntryLaws
pub mod ListLaws
pub mod PrefixLaws
pub mod RangeLaws
pub mod WalkLaws
pub mod SubtreeLaws
