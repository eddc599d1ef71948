-- The lemmas of this crate.
mod DecidingLaws
mod NamedLaws
mod ListedLaws
mod PlaceLaws
mod ClassLaws
mod HavingLaws
mod NamingLaws
pub mod RuledLaws
