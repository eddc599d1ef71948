-- The lemmas of this crate.
pub mod TemplateTests
pub mod PartsDecided
pub mod MembersDecided
pub mod PackagesDecided
pub mod ClassesDecided
pub mod TemplatesDecided
pub mod Trees
