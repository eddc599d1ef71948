-- The lemmas of this crate.
pub mod BodyLaws
pub mod MemberLaws
pub mod TextLaws
pub mod TableLaws
pub mod OwnLaws
