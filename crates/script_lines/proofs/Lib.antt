mod PartLaws
mod LineLaws
mod ScriptFacts
pub mod ScriptLaws
