mod GraphLaws
mod StandardFacts
pub mod NotingSome
pub mod TableLaws
pub mod AttributeLaws
pub mod RuleLaws
pub mod NamingLaws
pub mod SyntaxLaws
