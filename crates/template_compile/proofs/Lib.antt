pub mod ListLaws
pub mod FaultLaws
mod ReadLaws
mod RecordLaws
