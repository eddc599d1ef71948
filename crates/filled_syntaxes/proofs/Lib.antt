mod FilledFacts
pub mod NotingTexts
pub mod SaidLaws
pub mod NamedLaws
pub mod BadLaws
pub mod CountLaws
pub mod FilledLaws
pub mod WalkLaws
pub mod ThingsLaws
pub mod AlikeLaws
pub mod WrittenLaws
pub mod AssignedLaws
pub mod JudgedLaws
