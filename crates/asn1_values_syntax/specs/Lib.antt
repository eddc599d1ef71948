-- The definitions that the contracts of this crate cite.
pub mod ValueForms
pub mod TypeForms
pub mod TypeEnds
pub mod Asn1
pub mod Lookahead
pub mod NumberTrees
pub mod ConstraintTrees
pub mod NamedNumberTrees
pub mod ValueTrees
pub mod Agreement
pub mod Readings
pub mod Keywords
