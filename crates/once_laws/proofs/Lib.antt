-- The lemmas of this crate.
mod PairLaws
mod ToldLaws
mod TemplatePairs
mod KindTables
mod RecordTables
mod RulePairs
pub mod OnceLaws
